-- What cases that were read are.
use Rattle.std.proofs.Common.{◌≡◌, Bool, true, List, [], ◌∷◌, ◌++◌}
use Rattle.std.specs.Prelude.{codes, ℤ}
use Rattle.xt_shapes.specs.Lists.{all}
use Rattle.type_trees.specs.Trees.{Tree, MemberHead, CaseHead}
use Rattle.type_trees.specs.View.{cases_of}
use Rattle.xt_annotations.specs.declared.places.Site.{Site}
use Rattle.idl_input.specs.Input.{want, notes_at}
use Rattle.idl_types.specs.State.{State, Declared}
use Rattle.idl_definitions.specs.Lists.{to_brace}
use Rattle.idl_definitions.specs.Unions.{behind, Gathered, no_cases_yet, a_case, case, discriminator}
use Rattle.idl_laws.specs.Printable.{IsUse, EachCase, label_fits}
use Rattle.idl_laws.proofs.OfParsed.Gives.{Yields, bind, behind as following, next, given}
use Rattle.idl_laws.proofs.OfParsed.Lists.{brace_yields}
use Rattle.idl_laws.proofs.OfParsed.Sound.{Sound}
use Rattle.idl_laws.proofs.OfParsed.Types.{type_yields}
use Rattle.idl_laws.proofs.OfParsed.Members.{new_name_yields, shaped_yields, IsMember}
use Rattle.idl_laws.proofs.OfParsed.Labels.{LiteralsFit, labels_yield}

case_more : (known : Declared) (disc : Tree) (cs : List (CaseHead × Tree)) (ls : List ℤ) (is_default : Bool) (m : MemberHead × Tree) → EachCase known disc (cases_of cs)
    → all (label_fits disc) ls ≡ true → IsMember known m → EachCase known disc (cases_of (cs ++ a_case ls is_default m ∷ []))
case_more known disc [] ls is_default m each fit more = (more.spelled, (fit, (more.typed, tt)))
case_more known disc (c ∷ cs) ls is_default m each fit more = (each.0, (each.1.0, (each.1.1.0, case_more known disc cs ls is_default m each.1.1.1 fit more)))

case_yields : (s : State) → Sound s.types → (hashed : Bool) (disc : Tree) → LiteralsFit (behind disc) → (r : Gathered) → EachCase s.types (behind disc) (cases_of r.cases)
    → Yields (case s hashed disc r) (λ g. EachCase s.types (behind disc) (cases_of g.cases))
unfolding case
case_yields s sound hashed disc literals r each =
    bind (labels_yield disc literals) (λ ls fit. following (notes_at Site.Case) (λ ns. bind (type_yields s sound) (λ t used. bind (new_name_yields r.names)
    (λ n free. bind (shaped_yields s.types n.0 n.1 ns hashed r.following t free used) (λ m more.
    next (want (codes ";")) (given (case_more s.types (behind disc) r.cases ls.0 ls.1 m each fit more)))))))

pub cases_yield : (s : State) → Sound s.types → (hashed : Bool) (disc : Tree) → LiteralsFit (behind disc)
    → Yields (to_brace (case s hashed disc) no_cases_yet) (λ g. EachCase s.types (behind disc) (cases_of g.cases))
cases_yield s sound hashed disc literals = brace_yields (case s hashed disc) (λ g. EachCase s.types (behind disc) (cases_of g.cases)) (case_yields s sound hashed disc literals) no_cases_yet tt

pub discriminator_yields : (s : State) → Sound s.types → Yields (discriminator s) (λ d. IsUse s.types d.0)
unfolding discriminator
discriminator_yields s sound =
    next (want (codes "switch")) (next (want (codes "(")) (following (notes_at Site.Discriminator) (λ ns. bind (type_yields s sound) (λ t used. next (want (codes ")")) (given used)))))
