use Rattle.std.proofs.Common.{◌≡◌, ℕ, List, [], ◌∷◌, ◌++◌, refl, sym, subst}
use mir.Syntax.{a_type}
use mir.Val.{Val}
use mir.MapTy.{inst_fn}
use base.Logic.{SProp, ent, emp}
use prog.Wp.{WpFn}
use types.Kit.{‵, raw, ◌⊛◌, ◌$◌, ◌∵◌, !, qed, by, move, keep, split, fsplit, fsplit3, fjoin, use0, use1, use2}
use types.Run.{no_more, and_then, returns, enter}
use types.ByLocal.{alloc_all, pass_all, free_all, look_at, get, sets}
use types.Part.{agg}
use contract.Monad.{fact, fact_i}
use contract.Running.{tables}
use denote.Exit.{no}
use denote.RattleType.{RattleType, owns}
use denote.Signature.{types_at, plain}
use denote.Steps.{nothing}
use denote.Param.{param, layouts}
use denote.Triple.Walked.{Stays, stay_dropped, walk_of, Goes-dropped}
use Rattle.std.proofs.raw_atomic.Walks.{proved_at, leaves}
use Rattle.type_registry.specs.notes.Facts.{knows}
use Rattle.type_registry.proofs.OfNotes.Knows as lore
use Rattle.type_registry.proofs.OfNotes.Knows.{token_val}
use Rattle.type_registry.specs.contracts.notes.knowledge.Knowledge as Knowledge
use Rattle.type_registry.specs.contracts.notes.knowledge.Knowledge.and.{ended, clauses}
use Rattle.type_registry.specs.contracts.notes.knowledge.Knowledge.and.Key.{name as #self}
use Rattle.type_registry.proofs.notes.knowledge.Knowledge.and.Statement.{statement}
use Rattle.type_registry.proofs.notes.knowledge.Knowledge.and.Code as code

pub and_spec : {M : Type 1} → statement M
and_spec 𝓤 𝓛 𝓜 𝓡 wired T L =
    let H = 𝓛.H in let 𝓣 = tables 𝓤 H 𝓜 𝓡 𝓡.env in let R : RattleType = param 0 T in let En = ended T in let c = clauses T 𝓛 𝓜.mem 𝓡.returns in let S : RattleType = Knowledge.the_row R in
    let inst = layouts (a_type ∷ []) (T, tt) in let fn = inst_fn inst code.function in let lore_at = plain (λ _. S) in let hs : Stays En.signature.params En.kept = (stay_dropped lore_at no, (stay_dropped lore_at no, tt)) in
    proved_at 𝓛 En hs c 𝓜 𝓡 (Goes-dropped 𝓛 1 lore_at no (λ κs x f. refl), (Goes-dropped 𝓛 1 lore_at no (λ κs x f. refl), tt)) (#self inst) fn (code.unfolded 𝓤 H 𝓜 𝓡 wired (T, tt)) (λ y₀ are.
    let κs = y₀.0.0 in let qs = y₀.0.1 in let a = y₀.0.3 in let fs : List (ℕ × T.Denot) = a.0.facts in let gs : List (ℕ × T.Denot) = a.1.0.facts in let r : S.Denot = record { marker = record {}; facts = fs ++ gs } in let Told : Type 0 = r.facts ≡ r.facts in
    let At : List Val × (List Val × Unit {0}) → (walk_of 𝓛 En hs c).Ghost = λ vss. ((κs, qs, y₀.0.2, a, vss), y₀.1) in let y : (walk_of 𝓛 En hs c).Ghost = At (token_val ∷ [], (token_val ∷ [], tt)) in let Post : Val → SProp 𝓤 = (walk_of 𝓛 En hs c).post y in
    subst (λ (vss : List Val × (List Val × Unit {0})). ent 𝓤 ((walk_of 𝓛 En hs c).pre (At vss)) (WpFn 𝓤 H 𝓣.C 𝓣.Λ fn ((walk_of 𝓛 En hs c).args (At vss)) ((walk_of 𝓛 En hs c).post (At vss))))
    (λ i. (sym (lore.knowledge_told 𝓛 R y₀.0.4.0 are.0.0) i, (sym (lore.knowledge_told 𝓛 R y₀.0.4.1.0 are.1.0.0) i, tt))) (
    qed 𝓛 ((raw (denote.Triple.Entry.alive 𝓛 En.signature κs qs) ⊛ ‵ (owns (types_at En.signature.params κs) a y.0.4)) ∷ raw ((c κs a).requires y₀.1) ∷ []) ∵ split ! $ keep ! (1 ∷ 0 ∷ []) $
    fsplit3 ! $ fsplit ! $ move ! (2 ∷ []) $ fsplit ! $ keep ! (3 ∷ 1 ∷ 5 ∷ []) $ use2 𝓛 (‵ (knows R (fs ++ gs))) (lore.knows_both 𝓛 R fs gs) $ use1 𝓛 (‵ (S.own_val r (token_val ∷ []))) (lore.knowledge_made 𝓛 R r) $
    enter ! 𝓣.C 𝓣.Λ fn (token_val ∷ token_val ∷ []) Post $ alloc_all ! (λ l. pass_all ! refl ((tt, (tt, tt)), ((tt, (tt, tt)), tt)) $
    sets ! (agg ! (no_more !)) refl (tt, tt) $ sets ! (agg ! (and_then ! (get ! refl) (no_more !))) refl (tt, (tt, tt)) $
    use0 𝓛 (raw (fact 𝓤 Told)) (fact_i 𝓤 Told (emp 𝓤) refl) $ nothing ! $ nothing ! $ fjoin ! $ nothing ! $ fjoin ! $
    returns ! (look_at ! 0 refl) $ free_all ! refl $ keep ! (3 ∷ 0 ∷ 2 ∷ 1 ∷ []) $ by ! (leaves 𝓛 En hs c y token_val r (tt, (tt, tt)) (tt, (tt, tt))))))
