-- The turns of a body of samples and Notes keep the last values of each key.
use Rattle.std.proofs.Common.{◌≡◌, refl, sym, ap, ◌∙◌, ℕ, suc, ◌+◌, ◌<◌, ◌≤◌, nat_le, Bool, true, false, ◌||◌, if◌then◌else◌, List, [], ◌∷◌, ◌++◌, length, Result, Ok, Err, None, inl, inr, arith}
use Rattle.std.proofs.lemmas.Bool.{cases_Bool, cases_lt, and_parts, both_ways, le-leb, leb-true}
use Rattle.std.proofs.lemmas.List.{length-map}
use Rattle.std.specs.Str.{bytes_eq}
use Rattle.xt_io.specs.declared.Item.{Item}
use Rattle.xt_io.specs.declared.Kind.TheVariants.{Sample, Note}
use Rattle.xt_shapes.specs.declared.leaves.Rep.{Rep}
use Rattle.xt_shapes.specs.Lists.{all}
use Rattle.xt_shapes.specs.Vals.{Val}
use Rattle.type_trees.specs.Trees.{Tree}
use Rattle.type_trees.specs.Bridge.{shape}
use Rattle.xcdr_model.specs.declared.malformed.Fault.{Fault}
use Rattle.xcdr_model.specs.KeyOctets.{key_octets}
use Rattle.xcdr_model.specs.Samples.{Outcome, sample, discarded, must_understand, read_sample}
use Rattle.key_instances.specs.kept.Kept.{Puts, Instances, last, kept, keys_of, values_of, put, all_put, has_key, is_full}
use Rattle.key_instances.specs.kept.Laws.{KeepsLast as KeptLast}
use Rattle.tool_runs.specs.declared.output.ending.Style.TheVariants.{Lines}
use Rattle.tool_runs.specs.output.Outputs.{Output, goes_on, over, after_turn, refused, run_over, same_kind, taking, misplaced}
use Rattle.tool_samples.specs.instances.Instancing.{most_keys, full, put_turn, outcome_turn, instances_turn, instances_end}
use Rattle.tool_samples.specs.instances.Laws.{has_place, before_puts, puts_of, KeepsLast}

-- ---- how many keys there are

new_key : (n : ℕ) (es : Instances) (key : List ℕ) (v : Val) → has_key key es ≡ false → length (put n es key v) ≡ suc (length es)
new_key n [] key v h = refl
new_key n (e ∷ es) key v h = by (bytes_eq e.0 key) h (new_key n es key v)
  where
    by : (b : Bool) → (if b then true else has_key key es) ≡ false → (has_key key es ≡ false → length (put n es key v) ≡ suc (length es)) → length (if b then (e.0, last n (e.1 ++ v ∷ [])) ∷ es else e ∷ put n es key v) ≡ suc (suc (length es))
    by true h more = absurd cc
    by false h more = ap suc (more h)

known_key : (n : ℕ) (es : Instances) (key : List ℕ) (v : Val) → has_key key es ≡ true → length (put n es key v) ≡ length es
known_key n [] key v h = absurd cc
known_key n (e ∷ es) key v h = by (bytes_eq e.0 key) h (known_key n es key v)
  where
    by : (b : Bool) → (if b then true else has_key key es) ≡ true → (has_key key es ≡ true → length (put n es key v) ≡ length es) → length (if b then (e.0, last n (e.1 ++ v ∷ [])) ∷ es else e ∷ put n es key v) ≡ suc (length es)
    by true h more = refl
    by false h more = ap suc (more h)

no_fewer : (n : ℕ) (es : Instances) (key : List ℕ) (v : Val) → length es ≤ length (put n es key v)
no_fewer n es key v = elim (cases_Bool (has_key key es)) [
  | inl y ↦ omega (arith, known_key n es key v y)
  | inr x ↦ omega (arith, new_key n es key v x)
]

never_fewer : (n : ℕ) (es : Instances) (ps : Puts) → length es ≤ length (all_put n es ps)
never_fewer n es [] = omega arith
never_fewer n es (p ∷ ps) = omega (arith, no_fewer n es p.0 p.1, never_fewer n (put n es p.0 p.1) ps)

is_past : (a b : ℕ) → b < a → nat_le a b ≡ false
is_past a b p = elim (cases_Bool (nat_le a b)) [
  | inl y ↦ absurd (omega (arith, leb-true a b y, p))
  | inr x ↦ x
]

-- a key too many
past_full : (most n : ℕ) (es : Instances) (key : List ℕ) (v : Val) → is_full most es key ≡ true → most < length (put n es key v)
past_full most n es key v h = elim (cases_Bool (has_key key es)) [
  | inl y ↦ absurd (both_ways (is_full most es key) (ap (λ (b : Bool). if b then false else nat_le most (length es)) y) h)
  | inr x ↦ omega (arith, new_key n es key v x, leb-true most (length es) (sym (ap (λ (b : Bool). if b then false else nat_le most (length es)) x) ∙ h))
]

-- there is room for it
within_room : (most n : ℕ) (es : Instances) (key : List ℕ) (v : Val) → is_full most es key ≡ false → length es ≤ most → length (put n es key v) ≤ most
within_room most n es key v h few = elim (cases_Bool (has_key key es)) [
  | inl y ↦ omega (arith, known_key n es key v y, few)
  | inr x ↦ elim (cases_lt (length es) most) [
    | inl lt ↦ omega (arith, new_key n es key v x, lt)
    | inr le ↦ absurd (both_ways (nat_le most (length es)) (sym (ap (λ (b : Bool). if b then false else nat_le most (length es)) x) ∙ h) (le-leb most (length es) le))
  ]
]

-- ---- turns

-- what is written of these instances, unless they are too many
abbrev written : Tree → Instances → Output
written t es = if nat_le (length es) most_keys then instances_end t es else refused Lines full

written_few : (t : Tree) (es : Instances) → length es ≤ most_keys → written t es ≡ instances_end t es
written_few t es few = ap (λ (b : Bool). if b then instances_end t es else refused Lines full) (le-leb (length es) most_keys few)

written_full : (t : Tree) (es : Instances) → most_keys < length es → written t es ≡ refused Lines full
written_full t es many = ap (λ (b : Bool). if b then instances_end t es else refused Lines full) (is_past (length es) most_keys many)

module _ (depth : ℕ) (rep : Rep) (t : Tree) where
  -- what the other turns come to
  abbrev Comes : (Instances → Output) → Puts → Type 0
  Comes more ps = (es : Instances) → length es ≤ most_keys → more es ≡ written t (all_put depth es ps)

  put_comes : (more : Instances → Output) (ps : Puts) (es : Instances) (key : List ℕ) (v : Val) → Comes more ps → length es ≤ most_keys → after_turn Lines (put_turn depth es key v) more ≡ written t (all_put depth (put depth es key v) ps)
  put_comes more ps es key v comes few = elim (cases_Bool (is_full most_keys es key)) [
    | inl y ↦ (let many : most_keys < length (all_put depth (put depth es key v) ps) = omega (arith, past_full most_keys depth es key v y, never_fewer depth (put depth es key v) ps) in
        ap (λ (b : Bool). after_turn Lines (if b then over full else goes_on [] (put depth es key v)) more) y ∙ sym (written_full t (all_put depth (put depth es key v) ps) many))
    | inr x ↦ ap (λ (b : Bool). after_turn Lines (if b then over full else goes_on [] (put depth es key v)) more) x ∙ comes (put depth es key v) (within_room most_keys depth es key v x few)
  ]

  outcome_comes : (more : Instances → Output) (ps : Puts) (es : Instances) (read : Result Outcome Fault) → Comes more ps → length es ≤ most_keys → after_turn Lines (outcome_turn depth t es read) more ≡ written t (all_put depth es (before_puts t read ps))
  outcome_comes more ps es (Ok (sample v)) comes few = put_comes more ps es (key_octets (shape t) v) v comes few
  outcome_comes more ps es (Ok discarded) comes few = comes es few
  outcome_comes more ps es (Ok must_understand) comes few = comes es few
  outcome_comes more ps es (Err fault) comes few = comes es few

  item_comes : (more : Instances → Output) (ps : Puts) (es : Instances) (k : ℕ) (item : Item) (is_sample is_note : Bool) → Comes more ps → is_sample || is_note ≡ true → length es ≤ most_keys
      → after_turn Lines (if is_sample then instances_turn depth rep t k item es else (if is_note then goes_on [] es else over (misplaced item))) more ≡ written t (all_put depth es (if is_sample then before_puts t (read_sample rep (shape t) item.payload) ps else ps))
  item_comes more ps es k item true is_note comes place few = outcome_comes more ps es (read_sample rep (shape t) item.payload) comes few
  item_comes more ps es k item false true comes place few = comes es few
  item_comes more ps es k item false false comes place few = absurd cc

  body_comes : (k : ℕ) (items : List Item) → all has_place items ≡ true → Comes (λ es. run_over Lines (taking Sample (instances_turn depth rep t)) (instances_end t) es k items None) (puts_of rep t items)
  unfolding run_over
  body_comes k [] place es few = sym (written_few t es few)
  body_comes k (item ∷ items) place es few =
      let parts = and_parts (has_place item) (all has_place items) place in
      item_comes (λ next. run_over Lines (taking Sample (instances_turn depth rep t)) (instances_end t) next (k + 1) items None) (puts_of rep t items) es k item (same_kind item.kind Sample) (same_kind item.kind Note)
      (body_comes (k + 1) items parts.1) parts.0 few

-- as many instances as keys
as_many : (depth : ℕ) (puts : Puts) → length (kept depth puts) ≡ length (keys_of [] puts)
as_many depth puts = length-map (keys_of [] puts) (λ key. (key, last depth (values_of key puts)))

pub the_last_are_kept : KeptLast → KeepsLast
the_last_are_kept law depth rep t k items some place =
    let puts = puts_of rep t items in
    body_comes depth rep t k items place [] (omega arith) ∙ ap (written t) (law depth puts some)
    ∙ ap (λ (n : ℕ). if nat_le n most_keys then instances_end t (kept depth puts) else refused Lines full) (as_many depth puts)
