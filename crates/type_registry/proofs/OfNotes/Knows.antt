-- Facts of cells can be had twice, put together, and held against each other. Assumes `Logic`.
use Rattle.std.proofs.Common.{◌≡◌, ℕ, List, [], ◌∷◌, ◌++◌, inl, inr, refl, ap, sym, subst, ◌∙◌}
use Rattle.std.proofs.lemmas.Bool.Decides.{eqb_tells}
use seplogic.Ra.Ura.{Ura}
use mir.Val.{Val, vstruct, vcons, vnil, of_list}
use denote.Laws.{Is}
use base.Logic.{SProp, ent, sep, emp, emp∗, via, fst∗, snd∗}
use base.Shift.{Keyless}
use base.Fml.{Fml}
use types.Logic.{Logic, sem}
use types.Kit.{‵, ◌⊛◌, ◌$◌, ◌∵◌, !, qed, move, keep, drop, split, fsplit, fjoin, use0, use1, use2, rewrite, done}
use contract.Monad.{fact, fact_i, fact_mono, fact_use, conj_i}
use denote.RattleType.{RattleType}
use denote.Shadow.{makes_shadow}
use denote.Struct.Struct.{Struct}
use denote.Struct.Owning.{shape}
use Rattle.std.specs.declared.option.Option.TheVariants.{Some}
use Rattle.once_cell.specs.Once.{noted, mark}
use Rattle.once_cell.proofs.Moves.{second}
use Rattle.type_registry.specs.notes.Facts.{knows, Has, AgreeOn}
use Rattle.type_registry.specs.contracts.notes.knowledge.Knowledge as C

abbrev pub token_val : Val
token_val = vstruct (vcons (vstruct vnil) vnil)

pub knows_keyless : (R : RattleType) (fs : List (ℕ × R.Denot)) → Keyless (knows R fs)
knows_keyless R [] = tt
knows_keyless R (f ∷ fs) = (tt, knows_keyless R fs)

module _ {M : Type 1} (𝓤 : Ura M) where
  fact_mono' : (P : SProp 𝓤) (A B : Type 0) → ent 𝓤 P (fact 𝓤 A) → (A → B) → ent 𝓤 P (fact 𝓤 B)
  fact_mono' P A B p f = via 𝓤 (fact 𝓤 A) p (fact_mono 𝓤 A B f)

module _ {M : Type 1} {𝓤 : Ura M} (𝓛 : Logic 𝓤) (R : RattleType) where
  abbrev K : List (ℕ × R.Denot) → Fml
  K = knows R

  abbrev N : ℕ → R.Denot → Fml
  N γ x = noted R γ (Some x)

  pub knows_twice : (fs : List (ℕ × R.Denot)) → ent 𝓤 (sem 𝓛 (K fs)) (sep 𝓤 (sem 𝓛 (K fs)) (sem 𝓛 (K fs)))
  knows_twice [] = emp∗ 𝓤 (emp 𝓤)
  knows_twice (f ∷ fs) = qed 𝓛 (‵ (K (f ∷ fs)) ∷ []) ∵ fsplit ! $ use1 𝓛 (‵ (N f.0 f.1) ⊛ ‵ (N f.0 f.1)) (𝓛.names.res_dup f.0 (mark R f.0 f.1)) $ split ! $
      move ! (2 ∷ []) $ use1 𝓛 (‵ (K fs) ⊛ ‵ (K fs)) (knows_twice fs) $ split ! $ move ! (2 ∷ 0 ∷ []) $ fjoin ! $ move ! (2 ∷ 1 ∷ []) $ fjoin ! $ done !

  pub knows_both : (fs gs : List (ℕ × R.Denot)) → ent 𝓤 (sep 𝓤 (sem 𝓛 (K fs)) (sem 𝓛 (K gs))) (sem 𝓛 (K (fs ++ gs)))
  knows_both [] gs = snd∗ 𝓤 (emp 𝓤) (sem 𝓛 (K gs))
  knows_both (f ∷ fs) gs = qed 𝓛 (‵ (K (f ∷ fs)) ∷ ‵ (K gs) ∷ []) ∵ fsplit ! $ move ! (1 ∷ 2 ∷ []) $ use2 𝓛 (‵ (K (fs ++ gs))) (knows_both fs gs) $ move ! (1 ∷ 0 ∷ []) $ fjoin ! $ done !

  one_value : (γ : ℕ) (x y : R.Denot) → ent 𝓤 (sep 𝓤 (sem 𝓛 (N γ x)) (sem 𝓛 (N γ y))) (fact 𝓤 (x ≡ y))
  one_value γ x y = let P : SProp 𝓤 = 𝓛.A.res γ (mark R γ x) in let Q : SProp 𝓤 = 𝓛.A.res γ (mark R γ y) in
      via 𝓤 _ (via 𝓤 _ (conj_i 𝓤 P Q (fst∗ 𝓤 P Q) (snd∗ 𝓤 P Q)) (𝓛.names.res_one γ (mark R γ x) (mark R γ y))) (fact_mono 𝓤 (mark R γ x ≡ mark R γ y) (x ≡ y) (λ e. R.coded.inj x y (ap second e)))

  -- what a fact says of a cell that the list mentions too
  one_agrees : (γ : ℕ) (x : R.Denot) (gs : List (ℕ × R.Denot)) → ent 𝓤 (sep 𝓤 (sem 𝓛 (N γ x)) (sem 𝓛 (K gs))) (fact 𝓤 ((y : R.Denot) → Has gs (γ, y) → x ≡ y))
  one_agrees γ x [] = fact_i 𝓤 _ _ (λ y h. absurd h)
  one_agrees γ x (g ∷ gs) = let P : SProp 𝓤 = sep 𝓤 (sem 𝓛 (N γ x)) (sem 𝓛 (K (g ∷ gs))) in let More : Type 0 = (y : R.Denot) → Has gs (γ, y) → x ≡ y in
      let rest : ent 𝓤 P (fact 𝓤 More) = via 𝓤 (sep 𝓤 (sem 𝓛 (N γ x)) (sem 𝓛 (K gs))) (qed 𝓛 (‵ (N γ x) ∷ ‵ (K (g ∷ gs)) ∷ []) ∵ move ! (1 ∷ []) $ fsplit ! $ drop ! $ move ! (1 ∷ 0 ∷ []) $ done !) (one_agrees γ x gs) in
      let one : γ ≡ g.0 → ent 𝓤 P (fact 𝓤 (x ≡ g.1)) = λ e. via 𝓤 (sep 𝓤 (sem 𝓛 (N γ x)) (sem 𝓛 (N γ g.1)))
      (qed 𝓛 (‵ (N γ x) ∷ ‵ (K (g ∷ gs)) ∷ []) ∵ move ! (1 ∷ []) $ fsplit ! $ keep ! (0 ∷ 2 ∷ []) $ rewrite ! 0 (λ (k : ℕ). ‵ (N k g.1)) (sym e) refl $ move ! (1 ∷ 0 ∷ []) $ done !) (one_value γ x g.1) in
      fact_use 𝓤 More rest (λ more. elim (eqb_tells γ g.0) [
        | inl t ↦ fact_mono' 𝓤 P (x ≡ g.1) ((y : R.Denot) → Has (g ∷ gs) (γ, y) → x ≡ y) (one t.1) (λ s y. elim [ inl w ↦ s ∙ ap (λ p. p.1) w | inr h ↦ more y h ])
        | inr t ↦ fact_i 𝓤 ((y : R.Denot) → Has (g ∷ gs) (γ, y) → x ≡ y) P (λ y. elim [ inl w ↦ absurd (t.1 (sym (ap (λ p. p.0) w))) | inr h ↦ more y h ])
      ])

  pub knows_agree : (fs gs : List (ℕ × R.Denot)) → ent 𝓤 (sep 𝓤 (sem 𝓛 (K fs)) (sem 𝓛 (K gs))) (fact 𝓤 (AgreeOn fs gs))
  knows_agree [] gs = fact_i 𝓤 _ _ (λ n x y h k. absurd h)
  knows_agree (f ∷ fs) gs = let P : SProp 𝓤 = sep 𝓤 (sem 𝓛 (K (f ∷ fs))) (sem 𝓛 (K gs)) in
      let rest : ent 𝓤 P (fact 𝓤 (AgreeOn fs gs)) = via 𝓤 (sep 𝓤 (sem 𝓛 (K fs)) (sem 𝓛 (K gs))) (qed 𝓛 (‵ (K (f ∷ fs)) ∷ ‵ (K gs) ∷ []) ∵ fsplit ! $ drop ! $ done !) (knows_agree fs gs) in
      let head : ent 𝓤 P (fact 𝓤 ((y : R.Denot) → Has gs (f.0, y) → f.1 ≡ y)) = via 𝓤 (sep 𝓤 (sem 𝓛 (N f.0 f.1)) (sem 𝓛 (K gs))) (qed 𝓛 (‵ (K (f ∷ fs)) ∷ ‵ (K gs) ∷ []) ∵ fsplit ! $ keep ! (0 ∷ 2 ∷ []) $ done !) (one_agrees f.0 f.1 gs) in
      fact_use 𝓤 (AgreeOn fs gs) rest (λ more. fact_mono' 𝓤 P ((y : R.Denot) → Has gs (f.0, y) → f.1 ≡ y) (AgreeOn (f ∷ fs) gs) head
      (λ here n x y h k. elim h [ inl w ↦ sym (ap (λ p. p.1) w) ∙ here y (subst (λ (m : ℕ). Has gs (m, y)) (sym (ap (λ p. p.0) w)) k) | inr i ↦ more n x y i k ]))

  abbrev pub Row : RattleType
  Row = C.the_row R

  pub knowledge_made : (k : Row.Denot) → ent 𝓤 (sem 𝓛 (K k.facts)) (sem 𝓛 (Row.own_val k (token_val ∷ [])))
  knowledge_made k = let F = (Struct (shape (C.the_type R))).own_val (tt, tt) (token_val ∷ []) in
      qed 𝓛 (‵ (K k.facts) ∷ []) ∵ use0 𝓛 (‵ F) (makes_shadow 𝓛 F (λ vss. (tt, ((λ uss. (tt, tt)), tt))) ((vstruct vnil ∷ [], tt), (refl, ((tt, (refl, tt)), tt)))) $ done !

  pub knowledge_told : (vs : List Val) → Is (Struct (shape (C.the_type R))) (tt, tt) vs → vs ≡ token_val ∷ []
  knowledge_told vs is = is.1.0 ∙ ap (λ (ws : List Val). vstruct (of_list (ws ++ [])) ∷ []) is.1.1.0.1.0
