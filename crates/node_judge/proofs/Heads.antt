-- The rules at a node don't read the types of members and cases.
use Rattle.std.proofs.Common.{◌≡◌, ℕ, ℤ, List, [], ◌∷◌, Bool, true, false, not, cond, ◌==◌, ◌&&◌, ◌||◌, Some, map, refl, ap, ◌∙◌}
use Rattle.std.specs.Bool.{beq}
use Rattle.xt_shapes.specs.declared.leaves.Ext.{Ext}
use Rattle.xt_shapes.specs.declared.leaves.Ext.TheVariants.{Final, Appendable, Mutable}
use Rattle.std.specs.Ordering.{int_eq}
use Rattle.xt_shapes.specs.Lists.{has, all, or_else}
use Rattle.xt_shapes.specs.Shape.{Head, CaseHead, Members, no_members, member, Cases, no_cases, one_case, heads, case_heads}
use Rattle.xt_shapes.specs.Select.{has_member, select, labelled, default_case}
use Rattle.xt_shapes.specs.Keyable.{any_key, counted}
use Rattle.xcdr_model.specs.Keys.{counts_id, counted_within, same_counted}
use Rattle.xcdr_model.specs.Rules.{ids_within, need_met, needs_within, common_member, same_place, same_places, has_label, has_default, labels_within, common_label, label_sets}
use Rattle.node_judge.specs.Bare.{bare, bare_cases}

all_same : {A : Type 0} (p q : A → Bool) → ((x : A) → p x ≡ q x) → (xs : List A) → all p xs ≡ all q xs
all_same p q h [] = refl
all_same p q h (x ∷ xs) = ap (λ b. b && all p xs) (h x) ∙ ap (λ b. q x && b) (all_same p q h xs)

has_same : {A : Type 0} (p q : A → Bool) → ((x : A) → p x ≡ q x) → (xs : List A) → has p xs ≡ has q xs
has_same p q h [] = refl
has_same p q h (x ∷ xs) = ap (λ b. b || has p xs) (h x) ∙ ap (λ b. q x || b) (has_same p q h xs)

-- ---- members

heads_bare : (hs : List Head) → heads (bare hs) ≡ hs
heads_bare [] = refl
heads_bare (h ∷ hs) = ap (λ l. h ∷ l) (heads_bare hs)

has_member_bare : (ms : Members) (id : ℕ) → has_member (bare (heads ms)) id ≡ has_member ms id
has_member_bare no_members id = refl
has_member_bare (member h t ms) id = ap (λ b. (h.id == id) || b) (has_member_bare ms id)

ids_bare : (ms ns : Members) → ids_within (bare (heads ms)) (bare (heads ns)) ≡ ids_within ms ns
ids_bare ms ns = ap (all (λ a. has_member (bare (heads ns)) a.id)) (heads_bare (heads ms)) ∙ all_same (λ a. has_member (bare (heads ns)) a.id) (λ a. has_member ns a.id) (λ a. has_member_bare ns a.id) (heads ms)

needs_bare : (ms ns : Members) → needs_within (bare (heads ms)) (bare (heads ns)) ≡ needs_within ms ns
needs_bare ms ns =
    ap (all (λ h. need_met h (bare (heads ns)))) (heads_bare (heads ms))
    ∙ all_same (λ h. need_met h (bare (heads ns))) (λ h. need_met h ns) (λ h. ap (λ b. h.optional || (not (h.must_understand || h.key) || b)) (has_member_bare ns h.id)) (heads ms)

common_bare : (ms ns : Members) → common_member (bare (heads ms)) (bare (heads ns)) ≡ common_member ms ns
common_bare ms ns = ap (has (λ a. has_member (bare (heads ns)) a.id)) (heads_bare (heads ms)) ∙ has_same (λ a. has_member (bare (heads ns)) a.id) (λ a. has_member ns a.id) (λ a. has_member_bare ns a.id) (heads ms)

places_bare : (ms ns : Members) → same_places (bare (heads ms)) (bare (heads ns)) ≡ same_places ms ns
places_bare no_members ns = refl
places_bare (member h t ms) no_members = refl
places_bare (member h t ms) (member h2 u ns) = ap (λ b. same_place h h2 && b) (places_bare ms ns)

any_key_bare : (ms : Members) → any_key (bare (heads ms)) ≡ any_key ms
any_key_bare ms = ap (has (λ h. h.key)) (heads_bare (heads ms))

counts_bare : (keyed : Bool) (ms : Members) (id : ℕ) → counts_id keyed (bare (heads ms)) id ≡ counts_id keyed ms id
counts_bare keyed ms id = ap (has (λ h. counted keyed h && (h.id == id))) (heads_bare (heads ms))

within_bare : (keyed other : Bool) (ms ns : Members) → counted_within keyed (bare (heads ms)) other (bare (heads ns)) ≡ counted_within keyed ms other ns
within_bare keyed other ms ns =
    ap (all (λ h. not (counted keyed h) || counts_id other (bare (heads ns)) h.id)) (heads_bare (heads ms))
    ∙ all_same (λ h. not (counted keyed h) || counts_id other (bare (heads ns)) h.id) (λ h. not (counted keyed h) || counts_id other ns h.id) (λ h. ap (λ b. not (counted keyed h) || b) (counts_bare other ns h.id)) (heads ms)

counted_bare : (keyed other : Bool) (ms ns : Members) → same_counted keyed (bare (heads ms)) other (bare (heads ns)) ≡ same_counted keyed ms other ns
counted_bare keyed other ms ns = ap (λ b. b && counted_within other (bare (heads ns)) keyed (bare (heads ms))) (within_bare keyed other ms ns) ∙ ap (λ b. counted_within keyed ms other ns && b) (within_bare other keyed ns ms)

-- ---- cases

case_heads_bare : (hs : List CaseHead) → case_heads (bare_cases hs) ≡ hs
case_heads_bare [] = refl
case_heads_bare (h ∷ hs) = ap (λ l. h ∷ l) (case_heads_bare hs)

labelled_bare : (cs : Cases) (d : ℤ) → labelled (bare_cases (case_heads cs)) d ≡ labelled cs d
labelled_bare no_cases d = refl
labelled_bare (one_case h t cs) d = ap (λ o. cond (has (int_eq d) h.labels) (Some h.id) o) (labelled_bare cs d)

default_bare : (cs : Cases) → default_case (bare_cases (case_heads cs)) ≡ default_case cs
default_bare no_cases = refl
default_bare (one_case h t cs) = ap (λ o. cond h.is_default (Some h.id) o) (default_bare cs)

select_bare : (cs : Cases) (d : ℤ) → select (bare_cases (case_heads cs)) d ≡ select cs d
select_bare cs d = ap (λ o. or_else o (default_case (bare_cases (case_heads cs)))) (labelled_bare cs d) ∙ ap (or_else (labelled cs d)) (default_bare cs)

label_bare : (cs : Cases) (d : ℤ) → has_label (bare_cases (case_heads cs)) d ≡ has_label cs d
label_bare cs d = ap (has (λ h. has (int_eq d) h.labels)) (case_heads_bare (case_heads cs))

has_default_bare : (cs : Cases) → has_default (bare_cases (case_heads cs)) ≡ has_default cs
has_default_bare cs = ap (has (λ h. h.is_default)) (case_heads_bare (case_heads cs))

labels_bare : (cs ds : Cases) → labels_within (bare_cases (case_heads cs)) (bare_cases (case_heads ds)) ≡ labels_within cs ds
labels_bare cs ds =
    ap (all (λ h. all (has_label (bare_cases (case_heads ds))) h.labels)) (case_heads_bare (case_heads cs))
    ∙ all_same (λ h. all (has_label (bare_cases (case_heads ds))) h.labels) (λ h. all (has_label ds) h.labels) (λ h. all_same (has_label (bare_cases (case_heads ds))) (has_label ds) (label_bare ds) h.labels) (case_heads cs)

common_label_bare : (cs ds : Cases) → common_label (bare_cases (case_heads cs)) (bare_cases (case_heads ds)) ≡ common_label cs ds
common_label_bare cs ds =
    ap (has (λ h. has (has_label (bare_cases (case_heads ds))) h.labels)) (case_heads_bare (case_heads cs))
    ∙ has_same (λ h. has (has_label (bare_cases (case_heads ds))) h.labels) (λ h. has (has_label ds) h.labels) (λ h. has_same (has_label (bare_cases (case_heads ds))) (has_label ds) (label_bare ds) h.labels) (case_heads cs)

sets_bare : (e : Ext) (cs ds : Cases) → label_sets e (bare_cases (case_heads cs)) (bare_cases (case_heads ds)) ≡ label_sets e cs ds
sets_bare Final cs ds =
    let as_bare : Cases → Cases = λ xs. bare_cases (case_heads xs) in
    ap (λ b. b && (labels_within (as_bare ds) (as_bare cs) && beq (has_default (as_bare cs)) (has_default (as_bare ds)))) (labels_bare cs ds)
    ∙ ap (λ b. labels_within cs ds && (b && beq (has_default (as_bare cs)) (has_default (as_bare ds)))) (labels_bare ds cs)
    ∙ ap (λ b. labels_within cs ds && (labels_within ds cs && beq b (has_default (as_bare ds)))) (has_default_bare cs)
    ∙ ap (λ b. labels_within cs ds && (labels_within ds cs && beq (has_default cs) b)) (has_default_bare ds)
sets_bare Appendable cs ds = common_label_bare cs ds
sets_bare Mutable cs ds = refl

-- ---- lists of parts that are seen as members or cases

over : {X M Y : Type 0} (f : M → M → Y) (as_bare : List X → M) (parts : M → List X) (h : (a b : M) → f (as_bare (parts a)) (as_bare (parts b)) ≡ f a b) (xs ys : List X) (a b : M) → xs ≡ parts a → ys ≡ parts b → f (as_bare xs) (as_bare ys) ≡ f a b
over f as_bare parts h xs ys a b p q = ap (λ l. f (as_bare l) (as_bare ys)) p ∙ ap (λ l. f (as_bare (parts a)) (as_bare l)) q ∙ h a b

module _ {A : Type 0} (head_of : A → Head) (members_of : List A → Members) (are : (ps : List A) → map head_of ps ≡ heads (members_of ps)) where
  abbrev as_bare : List A → Members
  as_bare ps = bare (map head_of ps)

  pub ids_over : (ps qs : List A) → ids_within (as_bare ps) (as_bare qs) ≡ ids_within (members_of ps) (members_of qs)
  ids_over ps qs = over ids_within bare heads ids_bare _ _ (members_of ps) (members_of qs) (are ps) (are qs)

  pub needs_over : (ps qs : List A) → needs_within (as_bare ps) (as_bare qs) ≡ needs_within (members_of ps) (members_of qs)
  needs_over ps qs = over needs_within bare heads needs_bare _ _ (members_of ps) (members_of qs) (are ps) (are qs)

  pub common_over : (ps qs : List A) → common_member (as_bare ps) (as_bare qs) ≡ common_member (members_of ps) (members_of qs)
  common_over ps qs = over common_member bare heads common_bare _ _ (members_of ps) (members_of qs) (are ps) (are qs)

  pub places_over : (ps qs : List A) → same_places (as_bare ps) (as_bare qs) ≡ same_places (members_of ps) (members_of qs)
  places_over ps qs = over same_places bare heads places_bare _ _ (members_of ps) (members_of qs) (are ps) (are qs)

  pub any_key_over : (ps : List A) → any_key (as_bare ps) ≡ any_key (members_of ps)
  any_key_over ps = ap (λ l. any_key (bare l)) (are ps) ∙ any_key_bare (members_of ps)

  pub counted_over : (keyed : Bool) (ps : List A) (other : Bool) (qs : List A) → same_counted keyed (as_bare ps) other (as_bare qs) ≡ same_counted keyed (members_of ps) other (members_of qs)
  counted_over keyed ps other qs = over (λ ms ns. same_counted keyed ms other ns) bare heads (counted_bare keyed other) _ _ (members_of ps) (members_of qs) (are ps) (are qs)

module _ {A : Type 0} (head_of : A → CaseHead) (cases_of : List A → Cases) (are : (ps : List A) → map head_of ps ≡ case_heads (cases_of ps)) where
  abbrev as_cases : List A → Cases
  as_cases ps = bare_cases (map head_of ps)

  pub has_label_over : (ps : List A) (d : ℤ) → has_label (as_cases ps) d ≡ has_label (cases_of ps) d
  has_label_over ps d = ap (λ l. has_label (bare_cases l) d) (are ps) ∙ label_bare (cases_of ps) d

  pub default_over : (ps : List A) → default_case (as_cases ps) ≡ default_case (cases_of ps)
  default_over ps = ap (λ l. default_case (bare_cases l)) (are ps) ∙ default_bare (cases_of ps)

  pub select_over : (ps : List A) (d : ℤ) → select (as_cases ps) d ≡ select (cases_of ps) d
  select_over ps d = ap (λ l. select (bare_cases l) d) (are ps) ∙ select_bare (cases_of ps) d

  pub sets_over : (e : Ext) (ps qs : List A) → label_sets e (as_cases ps) (as_cases qs) ≡ label_sets e (cases_of ps) (cases_of qs)
  sets_over e ps qs = over (label_sets e) bare_cases case_heads (sets_bare e) _ _ (cases_of ps) (cases_of qs) (are ps) (are qs)
