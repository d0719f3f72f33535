-- The outcomes of a reply to putTypes, one object after another.
use Rattle.std.proofs.Math.Seq.{take-suc}
use Rattle.std.proofs.Common.{◌≡◌, ◌≢◌, ℕ, suc, take, get_or, ◌<◌, List, [], ◌∷◌, ◌++◌, length, Option, refl, sym, ap, subst, ◌∙◌, arith}
use Rattle.std.specs.Prelude.{None, Some, Err}
use Rattle.object_formats.specs.declared.faults.Fault.{Fault}
use Rattle.object_formats.specs.Tables.{object_of}
use Rattle.type_object.specs.Pools.{IsObject}
use Rattle.type_object.specs.Names.{named_by}
use Rattle.type_registry.specs.Held.{Held}
use Rattle.type_registry.specs.Found.{Found}
use Rattle.type_registry.specs.Passed.{PassView, known, Keeps, Grows, LearnsFull}
use Rattle.type_registry.specs.Registered.{IsIn}
use Rattle.type_object.specs.visits.Visits.{Known}
use Rattle.lookup_service.specs.replies.Replies.{IsOutcome, AreOutcomes}

some_not_none : {X : Type 0} (o : Option X) (x : X) → o ≡ None → o ≡ Some x → ⊥
some_not_none o x e f = cc

pub put_added : (name : List ℕ → List ℕ) (old new : PassView) (octets : List ℕ) (f : Found) → IsIn new.registry (named_by name octets) octets old new f → known old (named_by name octets) ≡ None → IsOutcome name (known old) new octets 0
put_added name old new octets f is none = record {
  range = omega arith;
  none = ((λ e. absurd (omega arith)), λ no. absurd (no is.0));
  kept = λ e. is.3.known_now;
  clash = λ e. absurd (omega arith);
  full = λ e. absurd (omega arith);
  old = λ o e. absurd (some_not_none (known old (named_by name octets)) o none e);
}

pub put_known : (name : List ℕ → List ℕ) (registry : List ℕ) (old new : PassView) (octets : List ℕ) (f : Found) → IsIn registry (named_by name octets) octets old new f → IsOutcome name (known old) new octets 1
put_known name registry old new octets f is = record {
  range = omega arith;
  none = ((λ e. absurd (omega arith)), λ no. absurd (no is.0));
  kept = λ e. is.3.known_now;
  clash = λ e. absurd (omega arith);
  full = λ e. absurd (omega arith);
  old = λ o e. ((λ z. absurd (omega arith)), λ z. absurd (omega arith));
}

no_text : (octets : List ℕ) (fault : Fault) → object_of octets ≡ Err fault → IsObject octets → ⊥
no_text octets fault stops is = let e = sym stops ∙ is.read in absurd (cc e)

pub put_none : (name : List ℕ → List ℕ) (old new : PassView) (octets : List ℕ) (fault : Fault) → object_of octets ≡ Err fault → IsOutcome name (known old) new octets 2
put_none name old new octets fault stops = record {
  range = omega arith;
  none = ((λ e. no_text octets fault stops), λ no. refl);
  kept = λ e. absurd (omega arith);
  clash = λ e. absurd (omega arith);
  full = λ e. absurd (omega arith);
  old = λ o e. ((λ z. absurd (omega arith)), λ z. absurd (omega arith));
}

pub put_clash : (name : List ℕ → List ℕ) (old new : PassView) (octets : List ℕ) (f : Found) → IsObject octets → f.id ≡ named_by name octets → f.octets ≢ octets → known new f.id ≡ Some f.octets → IsOutcome name (known old) new octets 3
put_clash name old new octets f is id other there = record {
  range = omega arith;
  none = ((λ e. absurd (omega arith)), λ no. absurd (no is));
  kept = λ e. absurd (omega arith);
  clash = λ e. (f.octets, ap (known new) (sym id) ∙ there, other);
  full = λ e. absurd (omega arith);
  old = λ o e. ((λ z. absurd (omega arith)), λ z. absurd (omega arith));
}

pub put_full : (name : List ℕ → List ℕ) (old new : PassView) (octets : List ℕ) (held : List Held) → IsObject octets → known old (named_by name octets) ≡ None → LearnsFull old new (named_by name octets) held → IsOutcome name (known old) new octets 4
put_full name old new octets held is none learns = record {
  range = omega arith;
  none = ((λ e. absurd (omega arith)), λ no. absurd (no is));
  kept = λ e. absurd (omega arith);
  clash = λ e. absurd (omega arith);
  full = λ e. (held, learns.full_now);
  old = λ o e. absurd (some_not_none (known old (named_by name octets)) o none e);
}

-- ---- later, and from before

pub outcome_later : (name : List ℕ → List ℕ) (before : Known) (p q : PassView) (octets : List ℕ) (outcome : ℕ) → Grows p q → IsOutcome name before p octets outcome → IsOutcome name before q octets outcome
outcome_later name before p q octets outcome g is = record {
  range = is.range;
  none = is.none;
  kept = λ e. g.known (named_by name octets) octets (is.kept e);
  clash = λ e. let c = is.clash e in (c.0, g.known (named_by name octets) c.0 c.1, c.2);
  full = λ e. let c = is.full e in (c.0, g.fulls (named_by name octets) c.0 c.1);
  old = is.old;
}

pub outcome_before : (name : List ℕ → List ℕ) (first before : Known) (p : PassView) (octets : List ℕ) (outcome : ℕ) → Keeps first before → IsOutcome name before p octets outcome → IsOutcome name first p octets outcome
outcome_before name first before p octets outcome keeps is = record {
  range = is.range;
  none = is.none;
  kept = is.kept;
  clash = is.clash;
  full = is.full;
  old = λ o e. is.old o (keeps (named_by name octets) o e);
}

pub outcomes_more : (name : List ℕ → List ℕ) (before : Known) (p q : PassView) (objects : List (List ℕ)) (outcomes : List ℕ) (object : List ℕ) (outcome : ℕ) → Grows p q → AreOutcomes name before p objects outcomes → IsOutcome name before q object outcome
    → AreOutcomes name before q (objects ++ object ∷ []) (outcomes ++ outcome ∷ [])
outcomes_more name before p q [] [] object outcome g all is = (is, tt)
outcomes_more name before p q [] (u ∷ us) object outcome g all is = absurd all
outcomes_more name before p q (o ∷ os) [] object outcome g all is = absurd all
outcomes_more name before p q (o ∷ os) (u ∷ us) object outcome g all is = (outcome_later name before p q o u g all.0, outcomes_more name before p q os us object outcome g all.1 is)

pub grows_then : (p q r : PassView) → Grows p q → Grows q r → Grows p r
grows_then p q r f g = record {
  registry = g.registry ∙ f.registry;
  known = λ id x e. g.known id x (f.known id x e);
  fulls = λ id x e. g.fulls id x (f.fulls id x e);
}

pub grows_not : (p : PassView) → Grows p p
grows_not p = record { registry = refl; known = λ id x e. e; fulls = λ id x e. e }

-- the outcome of the next object
pub outcomes_next : (name : List ℕ → List ℕ) (first p q : PassView) (objects : List (List ℕ)) (i j : ℕ) (object d : List ℕ) (outcomes then : List ℕ) (outcome : ℕ) → i < length objects → object ≡ get_or objects i d → j ≡ suc i → Grows first p → Grows p q
    → AreOutcomes name (known first) p (take i objects) outcomes → IsOutcome name (known p) q object outcome → then ≡ outcomes ++ outcome ∷ [] → AreOutcomes name (known first) q (take j objects) then
outcomes_next name first p q objects i j object d outcomes then outcome lt item next f g all one put =
    let more = outcomes_more name (known first) p q (take i objects) outcomes object outcome g all (outcome_before name (known first) (known p) q object outcome f.known one) in
    let same : take i objects ++ object ∷ [] ≡ take j objects = ap (λ (o : List ℕ). take i objects ++ o ∷ []) item ∙ sym (take-suc objects i d lt) ∙ ap (λ n. take n objects) (sym next) in
    subst (λ (o : List ℕ). AreOutcomes name (known first) q (take j objects) o) (sym put) (subst (λ (o : List (List ℕ)). AreOutcomes name (known first) q o (outcomes ++ outcome ∷ [])) same more)

pub put_clash_of : (name : List ℕ → List ℕ) (old new : PassView) (text octets : List ℕ) (f : Found) → text ≡ octets → IsObject text → f.id ≡ named_by name text → f.octets ≢ text → known new f.id ≡ Some f.octets → IsOutcome name (known old) new octets 3
put_clash_of name old new text octets f same is id other there = subst (λ (o : List ℕ). IsOutcome name (known old) new o 3) same (put_clash name old new text f is id other there)
