-- What a pass knows, and what it learns.
use Rattle.std.proofs.Common.{◌≡◌, ◌≢◌, ℕ, List, [], ◌∷◌, ◌++◌, true, false, cond, Bool, Option, inl, inr, refl, sym, ap, subst, ◌∙◌}
use Rattle.std.specs.Prelude.{None, Some, All}
use Rattle.std.specs.Map.{lookup}
use Rattle.std.specs.Option.{option_map}
use Rattle.std.proofs.lemmas.List.Elements.{All-head, All-tail, All-push}
use Rattle.type_trees.specs.declared.types.HashId.{HashId}
use Rattle.type_trees.specs.Ids.{same_id}
use Rattle.type_trees.proofs.SameIds.{same_id_tells}
use Rattle.type_registry.specs.Held.{Held}
use Rattle.type_registry.specs.Found.{Found, IsFinding}
use Rattle.type_registry.specs.Passed.{PassView, Occupied, known, Grows, IsFull, IsFindingOf, IsFullOf, IsPass, Learns, LearnsFull}

-- ---- values by identifiers

module _ {X : Type 0} (id : HashId) where
  abbrev pub at : List (HashId × X) → Option X
  at es = lookup (same_id id) es

  here : (k : HashId) (x : X) (es : List (HashId × X)) → id ≡ k → at ((k, x) ∷ es) ≡ Some x
  here k x es e = elim (same_id_tells id k) [ inl t ↦ ap (λ (b : Bool). cond b (Some x) (at es)) t.0 | inr t ↦ absurd (t.1 e) ]

  past : (k : HashId) (x : X) (es : List (HashId × X)) → id ≢ k → at ((k, x) ∷ es) ≡ at es
  past k x es n = elim (same_id_tells id k) [ inl t ↦ absurd (n t.1) | inr t ↦ ap (λ (b : Bool). cond b (Some x) (at es)) t.0 ]

  -- what is there stays there
  pub at_more : (es fs : List (HashId × X)) (x : X) → at es ≡ Some x → at (es ++ fs) ≡ Some x
  at_more [] fs x h = absurd (cc h)
  at_more (e ∷ es) fs x h = elim (same_id id e.0) as (λ b. cond b (Some e.1) (at es) ≡ Some x → cond b (Some e.1) (at (es ++ fs)) ≡ Some x) [ true ↦ (λ k. k) | false ↦ at_more es fs x ] h

  pub at_last : (es : List (HashId × X)) (x : X) → at es ≡ None → at (es ++ (id, x) ∷ []) ≡ Some x
  at_last [] x h = here id x [] refl
  at_last (e ∷ es) x h = elim (same_id id e.0) as (λ b. cond b (Some e.1) (at es) ≡ None → cond b (Some e.1) (at (es ++ (id, x) ∷ [])) ≡ Some x) [ true ↦ (λ k. absurd (cc k)) | false ↦ at_last es x ] h

  pub at_other : (es : List (HashId × X)) (k : HashId) (x : X) → id ≢ k → at (es ++ (k, x) ∷ []) ≡ at es
  at_other [] k x n = past k x [] n
  at_other (e ∷ es) k x n = ap (λ (o : Option X). cond (same_id id e.0) (Some e.1) o) (at_other es k x n)

  some_same : (x y : X) → Some x ≡ Some y → x ≡ y
  some_same x y e = cc e

  -- what holds of each entry holds of the one that is found
  pub holds_at : (P : HashId × X → Type 0) (es : List (HashId × X)) (x : X) → All P es → at es ≡ Some x → P (id, x)
  holds_at P [] x all h = absurd (cc h)
  holds_at P (e ∷ es) x all h = elim (same_id_tells id e.0) [
    | inl t ↦ let same : e.1 ≡ x = some_same e.1 x (sym (here e.0 e.1 es t.1) ∙ h) in subst P (λ i. (sym t.1 i, same i)) (All-head P e es all)
    | inr t ↦ holds_at P es x (All-tail P e es all) (sym (past e.0 e.1 es t.1) ∙ h)
  ]

-- ---- a pass

abbrev octets_of : Found → List ℕ
octets_of f = f.octets

pub none_known : (o : Option Found) → option_map octets_of o ≡ None → o ≡ None
none_known None e = refl
none_known (Some f) e = absurd (cc e)

pub recalled : (name : List ℕ → List ℕ) (p q : PassView) (id : HashId) (f g : Found) → p ≡ q → IsPass name p → g ≡ f → Some f ≡ lookup (same_id id) p.found → (g.registry ≡ q.registry) × (g.id ≡ id) × (known q id ≡ Some g.octets)
recalled name p q id f g s is again h = let e : IsFindingOf name p.registry (id, f) = holds_at id (IsFindingOf name p.registry) p.found f is.findings (sym h) in
    subst (λ (x : Found). (x.registry ≡ q.registry) × (x.id ≡ id) × (known q id ≡ Some x.octets)) (sym again)
    (subst (λ (v : PassView). (f.registry ≡ v.registry) × (f.id ≡ id) × (known v id ≡ Some f.octets)) s (e.registry_is, e.id_is, ap (option_map octets_of) (sym h)))

-- what a pass doesn't know has no finding in it
pub not_there : (p q : PassView) (id : HashId) → p ≡ q → known q id ≡ None → lookup (same_id id) p.found ≡ None
not_there p q id s h = none_known (lookup (same_id id) p.found) (ap (λ (v : PassView). known v id) s ∙ h)

pub keeps_all : (p : PassView) → Grows p p
keeps_all p = record { registry = refl; known = λ id x e. e; fulls = λ id x e. e }

-- the pass knew the identifier already, with these octets
pub learns_nothing : (p : PassView) (id : HashId) (octets : List ℕ) → known p id ≡ Some octets → Learns p p id octets
learns_nothing p id octets e = record { known_now = e; others = λ j n. refl; grows = keeps_all p; same_fulls = refl }

abbrev pub with_found : PassView → HashId → Found → PassView
with_found p id f = record { registry = p.registry; found = p.found ++ (id, f) ∷ []; full = p.full }

abbrev pub with_full : PassView → HashId → Occupied → PassView
with_full p id o = record { registry = p.registry; found = p.found; full = p.full ++ (id, o) ∷ [] }

some_known : (id : HashId) (es fs : List (HashId × Found)) (x : List ℕ) → option_map octets_of (lookup (same_id id) es) ≡ Some x → option_map octets_of (lookup (same_id id) (es ++ fs)) ≡ Some x
some_known id es fs x h = by (lookup (same_id id) es) refl h
  where
    by : (o : Option Found) → lookup (same_id id) es ≡ o → option_map octets_of o ≡ Some x → option_map octets_of (lookup (same_id id) (es ++ fs)) ≡ Some x
    by None e k = absurd (cc k)
    by (Some f) e k = ap (option_map octets_of) (at_more id es fs f e) ∙ k

pub learns_one : (p : PassView) (id : HashId) (f : Found) → known p id ≡ None → Learns p (with_found p id f) id f.octets
learns_one p id f e = record {
  known_now = ap (option_map octets_of) (at_last id p.found f (none_known (lookup (same_id id) p.found) e));
  others = λ j n. ap (option_map octets_of) (at_other j p.found id f n);
  grows = record { registry = refl; known = λ j x k. some_known j p.found ((id, f) ∷ []) x k; fulls = λ j x k. k };
  same_fulls = refl;
}

pub pass_more : (name : List ℕ → List ℕ) (p : PassView) (id : HashId) (f : Found) → IsPass name p → f.registry ≡ p.registry → f.id ≡ id → IsFinding name f → IsPass name (with_found p id f)
pass_more name p id f is e i s = record { findings = All-push (IsFindingOf name p.registry) p.found (id, f) is.findings (record { registry_is = e; id_is = i; is_finding = s }); trails = is.trails }

-- the pass's view before and after a finding was put in
pub learns_at : (p q : PassView) (id : HashId) (f g : Found) (found : List (HashId × Found)) → p ≡ q → found ≡ p.found ++ (id, f) ∷ [] → f ≡ g → id ≡ g.id → known q id ≡ None → Learns q (record { registry = p.registry; found = found; full = p.full }) g.id g.octets
learns_at p q id f g found s put again is none =
    subst (λ (fs : List (HashId × Found)). Learns q (record { registry = p.registry; found = fs; full = p.full }) g.id g.octets) (sym put)
    (subst (λ (x : Found). Learns q (with_found p id f) g.id x.octets) again
    (subst (λ (j : HashId). Learns q (with_found p id f) j f.octets) is
    (subst (λ (v : PassView). Learns v (with_found p id f) id f.octets) s (learns_one p id f (ap (λ (v : PassView). known v id) s ∙ none)))))

pub pass_at : (name : List ℕ → List ℕ) (p q : PassView) (id : HashId) (f g : Found) (found : List (HashId × Found)) → p ≡ q → found ≡ p.found ++ (id, f) ∷ [] → f ≡ g → id ≡ g.id → IsPass name p → g.registry ≡ q.registry → IsFinding name g → IsPass name (record { registry = p.registry; found = found; full = p.full })
pass_at name p q id f g found s put again is whole one sound =
    subst (λ (fs : List (HashId × Found)). IsPass name (record { registry = p.registry; found = fs; full = p.full })) (sym put)
    (pass_more name p id f whole (ap (λ (x : Found). x.registry) again ∙ one ∙ sym (ap (λ (v : PassView). v.registry) s)) (ap (λ (x : Found). x.id) again ∙ sym is) (subst (IsFinding name) (sym again) sound))

-- ---- the same of trails

abbrev held_in : Occupied → List Held
held_in o = o.held

some_full : (id : HashId) (es fs : List (HashId × Occupied)) (x : List Held) → option_map held_in (lookup (same_id id) es) ≡ Some x → option_map held_in (lookup (same_id id) (es ++ fs)) ≡ Some x
some_full id es fs x h = by (lookup (same_id id) es) refl h
  where
    by : (o : Option Occupied) → lookup (same_id id) es ≡ o → option_map held_in o ≡ Some x → option_map held_in (lookup (same_id id) (es ++ fs)) ≡ Some x
    by None e k = absurd (cc k)
    by (Some o) e k = ap (option_map held_in) (at_more id es fs o e) ∙ k

-- the pass had a trail already
pub learns_no_trail : (p : PassView) (id : HashId) (o : Occupied) → lookup (same_id id) p.full ≡ Some o → LearnsFull p p id o.held
learns_no_trail p id o e = record { full_now = ap (option_map held_in) e; others = λ j n. refl; grows = keeps_all p; same_found = refl }

pub learns_trail : (p : PassView) (id : HashId) (o : Occupied) → lookup (same_id id) p.full ≡ None → LearnsFull p (with_full p id o) id o.held
learns_trail p id o e = record {
  full_now = ap (option_map held_in) (at_last id p.full o e);
  others = λ j n. ap (option_map held_in) (at_other j p.full id o n);
  grows = record { registry = refl; known = λ j x k. k; fulls = λ j x k. some_full j p.full ((id, o) ∷ []) x k };
  same_found = refl;
}

pub pass_fuller : (name : List ℕ → List ℕ) (p : PassView) (id : HashId) (o : Occupied) → IsPass name p → o.registry ≡ p.registry → o.id ≡ id → IsFull name o → IsPass name (with_full p id o)
pass_fuller name p id o is e i s = record { findings = is.findings; trails = All-push (IsFullOf name p.registry) p.full (id, o) is.trails (record { registry_is = e; id_is = i; is_full = s }) }

-- what the pass has is of that identifier in its registry, so it is the trail that was answered
pub no_trail_at : (name : List ℕ → List ℕ) (p q : PassView) (id : HashId) (o s t : Occupied) → p ≡ q → IsPass name p → Some o ≡ lookup (same_id id) p.full → s ≡ t → id ≡ s.id → t.registry ≡ q.registry → (o.registry ≡ s.registry → o.id ≡ s.id → o.held ≡ s.held) → LearnsFull q q t.id t.held
no_trail_at name p q id o s t same is got again id_is one agrees =
    let e : IsFullOf name p.registry (id, o) = holds_at id (IsFullOf name p.registry) p.full o is.trails (sym got) in
    let held : o.held ≡ s.held = agrees (e.registry_is ∙ ap (λ (v : PassView). v.registry) same ∙ sym one ∙ sym (ap (λ (u : Occupied). u.registry) again)) (e.id_is ∙ id_is) in
    subst (λ (u : Occupied). LearnsFull q q u.id u.held) again
    (subst (λ (j : HashId). LearnsFull q q j s.held) id_is
    (subst (λ (hs : List Held). LearnsFull q q id hs) held
    (subst (λ (v : PassView). LearnsFull v v id o.held) same (learns_no_trail p id o (sym got)))))

pub trail_put : (p q : PassView) (id : HashId) (o t : Occupied) (full : List (HashId × Occupied)) → p ≡ q → full ≡ p.full ++ (id, o) ∷ [] → o ≡ t → id ≡ t.id → lookup (same_id id) p.full ≡ None → LearnsFull q (record { registry = p.registry; found = p.found; full = full }) t.id t.held
trail_put p q id o t full s put again is none =
    subst (λ (fs : List (HashId × Occupied)). LearnsFull q (record { registry = p.registry; found = p.found; full = fs }) t.id t.held) (sym put)
    (subst (λ (u : Occupied). LearnsFull q (with_full p id o) t.id u.held) again
    (subst (λ (j : HashId). LearnsFull q (with_full p id o) j o.held) is (subst (λ (v : PassView). LearnsFull v (with_full p id o) id o.held) s (learns_trail p id o none))))

pub pass_full_at : (name : List ℕ → List ℕ) (p q : PassView) (id : HashId) (o t : Occupied) (full : List (HashId × Occupied)) → p ≡ q → full ≡ p.full ++ (id, o) ∷ [] → o ≡ t → id ≡ t.id → IsPass name p → t.registry ≡ q.registry → IsFull name o → IsPass name (record { registry = p.registry; found = p.found; full = full })
pass_full_at name p q id o t full s put same is whole one sound =
    subst (λ (fs : List (HashId × Occupied)). IsPass name (record { registry = p.registry; found = p.found; full = fs })) (sym put)
    (pass_fuller name p id o whole (ap (λ (x : Occupied). x.registry) same ∙ one ∙ sym (ap (λ (v : PassView). v.registry) s)) (ap (λ (x : Occupied). x.id) same ∙ sym is) sound)
