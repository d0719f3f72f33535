-- Keys, one member on, and what lists of members say of their types.
use Rattle.std.proofs.Common.{◌≡◌, ℕ, ◌+◌, ◌<◌, ◌≤◌, List, [], ◌∷◌, length, get_or, drop, map, Bool, true, false, cond, not, ◌&&◌, ◌||◌, Some, None, sym, ap, subst, ◌∙◌}
use Rattle.std.proofs.lemmas.List.{drop_more, drop_all}
use Rattle.std.specs.Prelude.{IfOk, Result, Ok, Err}
use Rattle.xt_shapes.specs.declared.leaves.Ext.{Ext}
use Rattle.xt_shapes.specs.declared.leaves.Step.{Step}
use Rattle.xt_shapes.specs.Kinds.{same_ext}
use Rattle.xt_shapes.specs.Keyable.{any_key}
use Rattle.xt_shapes.specs.Lists.{is_some_and}
use Rattle.xt_shapes.specs.Select.{shape_at}
use Rattle.xt_shapes.specs.Shape.{structure, Members}
use Rattle.xcdr_model.specs.declared.verdict.Rule.{Rule}
use Rattle.xcdr_model.specs.Keys.{key_fit, keys_fit, same_counted}
use Rattle.xcdr_model.specs.Failure.{First, rule, and_then, step, key_failure, top_rules}
use Rattle.type_object.specs.Pools.{Texts}
use Rattle.pair_memo.specs.declared.nodes.nodes.Node.{Node}
use Rattle.pair_memo.specs.declared.nodes.parts.Part.{Part}
use Rattle.pair_judge.specs.declared.stops.Stop.{Stop}
use Rattle.pair_judge.specs.Judged.{Ends}
use Rattle.pair_memo.specs.nodes.Seen as seen
use Rattle.pair_memo.specs.nodes.Seen.{See, members_in}
use Rattle.pair_memo.specs.nodes.Views.{part_view, parts_in, bare, node_shape}
use Rattle.pair_memo.proofs.OfNodes.Heads.{any_key_bare, counted_bare}
use Rattle.pair_judge.proofs.Ends.{ends_and_then, ends_rule}
use Rattle.node_judge.proofs.Failing.{rule_true, rule_false, and_then_none, and_then_some, step_none, step_some, key_failure_none, key_failure_step}

-- what both sides count, and the members that do
abbrev pub Fit : Members → Members → Bool
Fit ms ns = same_counted (any_key ms) ms (any_key ns) ns && keys_fit (any_key ms) ms ns

module _ {E : Type 0} (answer : Result Bool E) (see : See) where
  pub members_say : (ps qs : List Part) (k : Bool) → k ≡ any_key (bare ps) → same_counted (any_key (parts_in see ps)) (parts_in see ps) (any_key (parts_in see qs)) (parts_in see qs) ≡ true → IfOk answer (λ b. b ≡ keys_fit k (parts_in see ps) (parts_in see qs)) → IfOk answer (λ b. b ≡ Fit (parts_in see ps) (parts_in see qs))
  members_say ps qs k e same h = by answer h
    where
      by : (r : Result Bool E) → IfOk r (λ b. b ≡ keys_fit k (parts_in see ps) (parts_in see qs)) → IfOk r (λ b. b ≡ Fit (parts_in see ps) (parts_in see qs))
      by (Ok b) f = f ∙ ap (λ x. keys_fit x (parts_in see ps) (parts_in see qs)) (e ∙ any_key_bare see ps) ∙ sym (ap (λ x. x && keys_fit (any_key (parts_in see ps)) (parts_in see ps) (parts_in see qs)) same)
      by (Err x) f = tt

  on_lists : (ps qs : List Part) (xs ys : List seen.Part) → map part_view ps ≡ xs → map part_view qs ≡ ys → IfOk answer (λ b. b ≡ Fit (parts_in see ps) (parts_in see qs)) → IfOk answer (λ b. b ≡ Fit (members_in see xs) (members_in see ys))
  on_lists ps qs xs ys e f h =
      subst (λ (a : List seen.Part). IfOk answer (λ b. b ≡ Fit (members_in see a) (members_in see ys))) e (subst (λ (a : List seen.Part). IfOk answer (λ b. b ≡ Fit (members_in see (map part_view ps)) (members_in see a))) f h)

on_structures : {E : Type 0} (answer : Result Bool E) (e e2 : Ext) (ms ns : Members) → same_ext e e2 ≡ true → IfOk answer (λ b. b ≡ Fit ms ns) → IfOk answer (λ b. b ≡ key_fit (structure e ms) (structure e2 ns))
on_structures (Ok b) e e2 ms ns p h = h ∙ sym (ap (λ x. x && Fit ms ns) p)
on_structures (Err x) e e2 ms ns p h = tt

pub structures_fit : {E : Type 0} (answer : Result Bool E) (see : See) (e e2 : Ext) (ps qs : List Part) (xs ys : List seen.Part) → same_ext e e2 ≡ true → map part_view ps ≡ xs → map part_view qs ≡ ys
    → IfOk answer (λ b. b ≡ (same_counted (any_key (parts_in see ps)) (parts_in see ps) (any_key (parts_in see qs)) (parts_in see qs) && keys_fit (any_key (parts_in see ps)) (parts_in see ps) (parts_in see qs)))
    → IfOk answer (λ b. b ≡ key_fit (structure e (members_in see xs)) (structure e2 (members_in see ys)))
structures_fit answer see e e2 ps qs xs ys p f g h = on_structures answer e e2 (members_in see xs) (members_in see ys) p (on_lists answer see ps qs xs ys f g h)

pub nodes_fit : {E : Type 0} (answer : Result Bool E) (pool : Texts) (l r l2 r2 : Node) → l ≡ l2 → r ≡ r2 → IfOk answer (λ b. b ≡ key_fit (node_shape pool l2) (node_shape pool r2)) → IfOk answer (λ b. b ≡ key_fit (node_shape pool l) (node_shape pool r))
nodes_fit answer pool l r l2 r2 e f h =
    subst (λ (n : Node). IfOk answer (λ b. b ≡ key_fit (node_shape pool n) (node_shape pool r))) (sym e) (subst (λ (n : Node). IfOk answer (λ b. b ≡ key_fit (node_shape pool l2) (node_shape pool n))) (sym f) h)

-- ---- the top pair's rules on keys

key_then : (b : Bool) (s : Step) (rest : First) → cond b rest (Some (Rule.KeyFit, s ∷ [])) ≡ and_then (step s (rule Rule.KeyFit b None)) rest
key_then true s rest = sym (ap (λ x. and_then (step s x) rest) (rule_true Rule.KeyFit None) ∙ ap (λ x. and_then x rest) (step_none s) ∙ and_then_none rest)
key_then false s rest = sym (ap (λ x. and_then (step s x) rest) (rule_false Rule.KeyFit None) ∙ ap (λ x. and_then x rest) (step_some s (Rule.KeyFit, [])) ∙ and_then_some (Rule.KeyFit, s ∷ []) rest)

module _ (see : See) where
  abbrev fits : Part → List Part → Bool
  fits m ns = not m.key || is_some_and (shape_at (parts_in see ns) m.id) (λ u. key_fit (see (part_view m).1) u)

  key_step : (ms ns : List Part) (i : ℕ) (m : Part) → i < length ms → m ≡ get_or ms i m
      → key_failure (parts_in see (drop i ms)) (parts_in see ns) ≡ and_then (step (Step.Member m.id) (rule Rule.KeyFit (fits m ns) None)) (key_failure (parts_in see (drop (i + 1) ms)) (parts_in see ns))
  key_step ms ns i m p is = rw (drop_more ms i m p, ← is) (key_failure_step _ _ _ _ ∙ key_then (fits m ns) (Step.Member m.id) _)

  pub key_goes_on : (ms ns : List Part) (i : ℕ) (m : Part) → i < length ms → m ≡ get_or ms i m → key_failure (parts_in see (drop i ms)) (parts_in see ns) ≡ key_failure (parts_in see ms) (parts_in see ns)
      → step (Step.Member m.id) (rule Rule.KeyFit (not m.key || is_some_and (shape_at (parts_in see ns) m.id) (λ u. key_fit (see (part_view m).1) u)) None) ≡ None → key_failure (parts_in see (drop (i + 1) ms)) (parts_in see ns) ≡ key_failure (parts_in see ms) (parts_in see ns)
  key_goes_on ms ns i m p is inv e = sym (and_then_none _) ∙ ap (λ f. and_then f (key_failure (parts_in see (drop (i + 1) ms)) (parts_in see ns))) (sym e) ∙ sym (key_step ms ns i m p is) ∙ inv

  pub key_done : (ms ns : List Part) (i : ℕ) → length ms ≤ i → key_failure (parts_in see (drop i ms)) (parts_in see ns) ≡ key_failure (parts_in see ms) (parts_in see ns) → key_failure (parts_in see ms) (parts_in see ns) ≡ None
  key_done ms ns i past inv = sym inv ∙ ap (λ l. key_failure (parts_in see l) (parts_in see ns)) (drop_all i ms past) ∙ key_failure_none _

pub key_stops : (stop : Stop) (see : See) (ms ns : List Part) (i : ℕ) (m : Part) → i < length ms → m ≡ get_or ms i m → key_failure (parts_in see (drop i ms)) (parts_in see ns) ≡ key_failure (parts_in see ms) (parts_in see ns)
    → Ends stop (step (Step.Member m.id) (rule Rule.KeyFit (not m.key || is_some_and (shape_at (parts_in see ns) m.id) (λ u. key_fit (see (part_view m).1) u)) None)) → Ends stop (key_failure (parts_in see ms) (parts_in see ns))
key_stops stop see ms ns i m p is inv e = subst (λ f. Ends stop f) (sym (key_step see ms ns i m p is) ∙ inv) (ends_and_then stop _ _ e)

pub top_stops : (stop : Stop) (top : Bool) (see : See) (ps qs : List Part) (b : Bool) → top ≡ true → b ≡ same_counted true (bare ps) true (bare qs) → Ends stop (rule Rule.KeySet b None) → Ends stop (top_rules top (parts_in see ps) (parts_in see qs))
top_stops stop top see ps qs b is same e =
    subst (λ (x : Bool). Ends stop (top_rules x (parts_in see ps) (parts_in see qs))) (sym is) (ends_rule stop Rule.KeySet (same_counted true (parts_in see ps) true (parts_in see qs)) (key_failure (parts_in see ps) (parts_in see qs))
    (subst (λ (x : Bool). Ends stop (rule Rule.KeySet x None)) (same ∙ counted_bare see true ps true qs) e))
