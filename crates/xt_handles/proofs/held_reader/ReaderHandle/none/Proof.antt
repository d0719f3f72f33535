-- `none` makes a null handle.
use Rattle.std.proofs.Common.{◌≡◌, [], ◌∷◌, refl}
use mir.Val.{Val}
use base.Logic.{SProp, emp}
use base.Fml.{ftrue}
use types.Kit.{‵, raw, ◌⊛◌, ◌$◌, ◌∵◌, !, qed, by, keep, split, use0, feq_i}
use types.Run.{lit, no_more, and_then, returns, enter}
use types.ByLocal.{alloc_all, pass_all, free_all, look_at, sets}
use types.Part.{agg}
use contract.Monad.{fact_i, fact}
use contract.Running.{tables}
use denote.RawPtr.{Ptr, null_ptr}
use denote.Triple.Walked.{Stays, walk_of}
use Rattle.std.specs.Prelude.{None}
use Rattle.std.proofs.raw_atomic.Walks.{proved_at, leaves}
use Rattle.xt_handles.proofs.OfBoxes.Handles.{word}
use Rattle.xt_handles.proofs.ReaderValues.{handle_good, handle_in}
use Rattle.xt_handles.specs.ReaderHeld.{Held}
use Rattle.xt_handles.specs.contracts.held_reader.ReaderHandle.none.{ended, clauses}
use Rattle.xt_handles.specs.contracts.held_reader.ReaderHandle.none.Key.{name as #self}
use Rattle.xt_handles.proofs.held_reader.ReaderHandle.none.Statement.{statement}
use Rattle.xt_handles.proofs.held_reader.ReaderHandle.none.Code as code

pub none_spec : {M : Type 1} → statement M
none_spec 𝓤 𝓛 𝓜 𝓡 wired =
    let H = 𝓛.H in let 𝓣 = tables 𝓤 H 𝓜 𝓡 𝓡.env in let fn = code.function in let hs : Stays ended.signature.params ended.kept = tt in let c = clauses 𝓛 𝓜.mem 𝓡.returns in
    let empty : Held = None in
    proved_at 𝓛 ended hs c 𝓜 𝓡 tt #self fn (code.unfolded 𝓤 H 𝓜 𝓡 wired) (λ z are.
    let Post : Val → SProp 𝓤 = (walk_of 𝓛 ended hs c).post z in
    qed 𝓛 ((‵ ftrue ⊛ ‵ ftrue) ∷ ‵ ftrue ∷ []) ∵ split ! $
    enter ! 𝓣.C 𝓣.Λ fn [] Post $ alloc_all ! (λ l. pass_all ! refl tt $ sets ! (agg ! (and_then ! (lit ! tt) (no_more !))) refl (handle_good null_ptr) $
    feq_i ! Ptr null_ptr null_ptr refl $ handle_in ! null_ptr None $ use0 𝓛 (raw (fact 𝓤 (empty ≡ None))) (fact_i 𝓤 (empty ≡ None) (emp 𝓤) refl) $
    returns ! (look_at ! 0 refl) $ free_all ! refl $ keep ! (2 ∷ 3 ∷ 1 ∷ 0 ∷ []) $ by ! (leaves 𝓛 ended hs c z (word null_ptr) (record { at = null_ptr; held = None }) tt tt)))
