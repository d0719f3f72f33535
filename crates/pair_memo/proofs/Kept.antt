-- What the memo says stays so.
use Rattle.std.proofs.Common.{◌≡◌, Bool, true, false, cond, List, [], ◌∷◌, Option, Some, None, refl, sym, ap, subst, ◌∙◌}
use Rattle.std.specs.Prelude.{IfSome, if◌then◌else◌}
use Rattle.std.specs.List.{IsDistinct, AllByRecursion}
use Rattle.std.specs.Map.{lookup, keys_of}
use Rattle.indexmap.specs.IndexMap.{insert_entry}
use Rattle.xt_shapes.specs.declared.leaves.Rep.{Rep}
use Rattle.xt_shapes.specs.Shape.{Shape}
use Rattle.xcdr_model.specs.declared.verdict.Policy.{Policy}
use Rattle.xcdr_model.specs.Equivalence.{same_shape}
use Rattle.type_trees.specs.declared.types.HashId.{HashId}
use Rattle.type_object.specs.Pools.{Texts}
use Rattle.pair_memo.specs.contracts.memo.PairPartialEq.TheImpl as pairs
use Rattle.pair_memo.specs.declared.memo.Kind.TheVariants as k
use Rattle.pair_memo.specs.declared.memo.Pair.{Pair}
use Rattle.pair_memo.specs.declared.memo.State.{State}
use Rattle.pair_memo.specs.Entries.{Entry, same_pair}
use Rattle.pair_memo.specs.Memos.{IsMemo, IsSo, EntryIsSo, IsOf, state_for}
use Rattle.pair_memo.proofs.SameKeys.{pair_is, pair_test, pair_tests}

-- a fact of each entry
module _ (P : Pair → State → Type 0) where
  abbrev Each : List Entry → Type 0
  Each es = AllByRecursion (λ (e : Entry). P e.0 e.1) es

  looked_by : (p : Pair) (x : Entry) (state : State) (rest : Option State) (b : Bool) → pairs.eq-value.it p x.0 ≡ b → P x.0 x.1 → (rest ≡ Some state → P p state) → cond b (Some x.1) rest ≡ Some state → P p state
  looked_by p x state rest true is h more f =
      let key : p ≡ x.0 = pair_is p x.0 (sym (pair_test p x.0) ∙ is) in
      let value : x.1 ≡ state = cc in
      subst (λ (y : Pair). P y state) (sym key) (subst (λ (z : State). P x.0 z) value h)
  looked_by p x state rest false is h more f = more f

  looked : (p : Pair) (es : List Entry) (state : State) → Each es → lookup (pairs.eq-value.it p) es ≡ Some state → P p state
  looked p [] state h e = absurd cc
  looked p (x ∷ es) state h e = looked_by p x state (lookup (pairs.eq-value.it p) es) (pairs.eq-value.it p x.0) refl h.0 (λ f. looked p es state h.1 f) e

  found : (p : Pair) (es : List Entry) (state : Option State) → state ≡ lookup (pairs.eq-value.it p) es → Each es → IfSome state (λ s. P p s)
  found p es None e h = tt
  found p es (Some state) e h = looked p es state h (sym e)

  -- one more, or another state under its key
  put_by : (p : Pair) (state : State) (x : Entry) (es more : List Entry) (b : Bool) → pairs.eq-value.it p x.0 ≡ b → P x.0 x.1 → Each es → Each more → P p state → Each (if b then (x.0, state) ∷ es else x ∷ more)
  put_by p state x es more true is h hs ms n = (subst (λ (y : Pair). P y state) (pair_is p x.0 (sym (pair_test p x.0) ∙ is)) n, hs)
  put_by p state x es more false is h hs ms n = (h, ms)

  put : (p : Pair) (state : State) (es : List Entry) → Each es → P p state → Each (insert_entry pairs.eq-value.it es p state)
  put p state [] h n = (n, tt)
  put p state (x ∷ es) h n = put_by p state x es (insert_entry pairs.eq-value.it es p state) (pairs.eq-value.it p x.0) refl h.0 h.1 (put p state es h.1 n) n

module _ (q : Policy) (r : Rep) (pool : Texts) (lefts rights : List HashId) where
  pub told : (p : Pair) (es : List Entry) (state : Option State) → state ≡ lookup (pairs.eq-value.it p) es → IsMemo q r pool lefts rights es → IfSome state (λ s. EntryIsSo q r pool p s)
  told p es state e h = found (EntryIsSo q r pool) p es state e h.so

  pub noted : (p : Pair) (state : State) (es new : List Entry) → new ≡ insert_entry pairs.eq-value.it es p state → IsDistinct pairs.eq-value.it (keys_of new) → IsOf lefts rights p → IsMemo q r pool lefts rights es → EntryIsSo q r pool p state → IsMemo q r pool lefts rights new
  noted p state es new e apart of h is = record {
    so = subst (λ (l : List Entry). AllByRecursion (λ (x : Entry). EntryIsSo q r pool x.0 x.1) l) (sym e) (put (EntryIsSo q r pool) p state es h.so is);
    reached = subst (λ (l : List Entry). AllByRecursion (λ (x : Entry). IsOf lefts rights x.0) l) (sym e) (put (λ (y : Pair) (s : State). IsOf lefts rights y) p state es h.reached of);
    apart = subst (λ (t : Pair → Pair → Bool). IsDistinct t (keys_of new)) pair_tests apart;
  }

  pub kept : (es new : List Entry) → new ≡ es → IsMemo q r pool lefts rights es → IsMemo q r pool lefts rights new
  kept es new e h = subst (λ (l : List Entry). IsMemo q r pool lefts rights l) (sym e) h

  pub empty : IsMemo q r pool lefts rights []
  unfolding IsDistinct
  empty = record { so = tt; reached = tt; apart = tt }

  pub equal_so : (t u : Shape) (b : Bool) → b ≡ same_shape t u → IsSo q r k.Equivalent (state_for b) t u
  equal_so t u true e = sym e
  equal_so t u false e = sym e
