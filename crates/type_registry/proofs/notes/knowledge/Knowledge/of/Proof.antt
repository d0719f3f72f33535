use Rattle.std.proofs.Common.{◌≡◌, ℕ, List, [], ◌∷◌, ◌++◌, refl, sym, subst}
use mir.Syntax.{a_type}
use mir.Val.{Val, vptr}
use mir.MapTy.{inst_fn}
use base.Logic.{SProp, ent, emp, id⊢, apply∗, all, all_e}
use base.Fml.{Lft, Share, Fml, ftrue, fsep, flft}
use prog.Wp.{WpFn}
use types.Logic.{sem}
use types.Kit.{‵, raw, ◌⊛◌, later, ◌$◌, ◌∵◌, !, qed, by, move, keep, split, join, fsplit, fsplit3, fjoin, suffices, use0, use1, use2, await, rewrite, feq_i}
use types.Run.{no_more, and_then, returns, enter}
use types.ByLocal.{alloc_all, pass_all, free_all, look_at, get, sets}
use types.Part.{agg}
use contract.Monad.{fact, fact_i}
use contract.Running.{tables}
use denote.Exit.{yes}
use denote.RattleType.{RattleType, owns}
use denote.Signature.{types_at, plain}
use denote.Builtin.{RefOf}
use denote.Steps.{nothing, heard}
use denote.Param.{param, layouts}
use denote.Triple.Walked.{Stays, stay_dropped, walk_of, Goes-dropped, stay_ref, Goes-ref}
use Rattle.std.proofs.raw_atomic.Walks.{proved_at, leaves}
use Rattle.type_registry.proofs.OfNotes.Knows as lore
use Rattle.type_registry.proofs.OfNotes.Knows.{token_val}
use Rattle.type_registry.specs.contracts.notes.knowledge.Knowledge as Knowledge
use Rattle.std.specs.declared.option.Option.{Option}
use Rattle.std.specs.declared.option.Option.TheVariants.{Some}
use Rattle.once_cell.specs.Once.{noted}
use Rattle.once_cell.proofs.Notes as notes
use Rattle.once_cell.proofs.Notes.{Note}
use contract.BorrowLft.{◌⊑◌}
use Rattle.type_registry.specs.contracts.notes.knowledge.Knowledge.of.{ended, clauses}
use Rattle.type_registry.specs.contracts.notes.knowledge.Knowledge.of.Key.{name as #self}
use Rattle.type_registry.proofs.notes.knowledge.Knowledge.of.Statement.{statement}
use Rattle.type_registry.proofs.notes.knowledge.Knowledge.of.Code as code

pub of_spec : {M : Type 1} → statement M
of_spec 𝓤 𝓛 𝓜 𝓡 wired T L =
    let H = 𝓛.H in let 𝓣 = tables 𝓤 H 𝓜 𝓡 𝓡.env in let R : RattleType = param 0 T in let En = ended T in let c = clauses T 𝓛 𝓜.mem 𝓡.returns in let S : RattleType = Knowledge.the_row R in
    let inst = layouts (a_type ∷ []) (T, tt) in let fn = inst_fn inst code.function in let value = RefOf (1 ∷ []) tt (plain (λ _. R)) (λ _. tt) in
    let hs : Stays En.signature.params En.kept = (stay_ref (0 ∷ []) tt (plain (λ _. Note 𝓛 R)), (stay_dropped value yes, tt)) in
    proved_at 𝓛 En hs c 𝓜 𝓡 (Goes-ref 𝓛 3 0 tt (plain (λ _. Note 𝓛 R)), (Goes-dropped 𝓛 3 value yes (λ κs x f. refl), tt)) (#self inst) fn (code.unfolded 𝓤 H 𝓜 𝓡 wired (T, tt)) (λ z are.
    let κs = z.0.0 in let qs = z.0.1 in let Post : Val → SProp 𝓤 = (walk_of 𝓛 En hs c).post z in let Run : List Val → SProp 𝓤 = λ ws. WpFn 𝓤 H 𝓣.C 𝓣.Λ fn ws Post in
    let κ' : Lft = κs.0 in let q' : Share = qs.0 in let τ : Lft = κs.1.1.0 in let m = z.0.3.0 in let nb₀ : ℕ = m.ref_ptr.0 in let no₀ : ℕ = m.ref_ptr.1 in let ν₀ : ℕ = m.ghost_name in let n = m.now in let γ : ℕ = n.cell in
    let x : T.Denot = z.0.3.1.0.now in let p : Val = vptr z.0.3.1.0.ref_ptr.0 z.0.3.1.0.ref_ptr.1 in let r : S.Denot = record { marker = record {}; facts = (γ, x) ∷ [] } in
    let Shuts = notes.Shuts 𝓛 R κ' q' nb₀ no₀ ν₀ in let N : Fml = noted R γ n.known in let Told : Type 0 = (r.facts ≡ r.facts) × (n ≡ n) in let Vs : List Val = vptr nb₀ no₀ ∷ p ∷ [] in
    qed 𝓛 (((‵ (flft κ' q') ⊛ ‵ (fsep (flft κs.1.0 qs.1.0) (fsep (flft τ qs.1.1.0) ftrue))) ⊛ ‵ (owns (types_at En.signature.params κs) z.0.3 z.0.4)) ∷ raw (fact 𝓤 (τ ⊑ T.lives)) ∷ raw (fact 𝓤 (n.known ≡ Some x)) ∷ []) ∵
    move ! (2 ∷ []) $ heard ! (n.known ≡ Some x) (λ same. split ! $ split ! $ move ! (2 ∷ []) $ fsplit3 ! $ fsplit ! $ keep ! (1 ∷ 4 ∷ 5 ∷ []) $
    suffices ! (Run Vs) (subst (λ (us : List Val). ent 𝓤 (Run Vs) (Run us)) (sym (λ i. are.0.0 i ++ (are.1.0.0 i ++ []))) (id⊢ 𝓤 (Run Vs))) $
    enter ! 𝓣.C 𝓣.Λ fn Vs Post $ alloc_all ! (λ l. pass_all ! refl ((tt, tt), ((tt, tt), tt)) $
    use2 𝓛 (later (‵ N ⊛ raw (all 𝓤 Shuts))) (notes.note_opens 𝓛 R κ' q' nb₀ no₀ ν₀ n) $ await ! tt $ split ! $ use1 𝓛 (‵ N ⊛ ‵ N) (notes.noted_twice 𝓛 R γ n.known) $ split ! $ move ! (2 ∷ []) $ use1 𝓛 (raw (Shuts n)) (all_e 𝓤 Shuts n) $ move ! (1 ∷ 0 ∷ []) $ use2 𝓛 (later (‵ (notes.lent 𝓛 R κ' q' nb₀ no₀ ν₀ n) ⊛ ‵ (flft κ' q'))) (apply∗ 𝓤 (sem 𝓛 N) _) $ await ! tt $ split ! $
    feq_i ! (List Val) z.0.4.0 (vptr nb₀ no₀ ∷ []) are.0.0 $ fjoin ! $ nothing ! $ nothing ! $ fjoin ! $ move ! (1 ∷ 0 ∷ []) $ fjoin ! $
    move ! (2 ∷ []) $ rewrite ! 0 (λ (k : Option T.Denot). ‵ (noted R γ k)) same refl $ nothing ! $ move ! (1 ∷ 0 ∷ []) $ fjoin ! $ use1 𝓛 (‵ (S.own_val r (token_val ∷ []))) (lore.knowledge_made 𝓛 R r) $
    sets ! (agg ! (no_more !)) refl (tt, tt) $ sets ! (agg ! (and_then ! (get ! refl) (no_more !))) refl (tt, (tt, tt)) $ move ! (2 ∷ 3 ∷ []) $ join ! $ use0 𝓛 (raw (fact 𝓤 Told)) (fact_i 𝓤 Told (emp 𝓤) (refl, refl)) $
    returns ! (look_at ! 0 refl) $ free_all ! refl $ keep ! (1 ∷ 3 ∷ 2 ∷ 0 ∷ []) $ by ! (leaves 𝓛 En hs c z token_val r (n, (tt, tt)) (tt, (tt, tt))))))
