-- For a type without floats, raw bits stand for either form.
use Rattle.std.proofs.Common.{◌≡◌, refl, sym, subst, false, None, Result, Ok, Err}
use Rattle.type_trees.specs.Trees.{Tree}
use Rattle.type_rules.specs.Valid.{type_fault}
use Rattle.xcdr_model.specs.declared.malformed.Fault.{Fault}
use Rattle.xcdr_model.specs.Samples.{Outcome, sample, discarded, must_understand}
use Rattle.dynamic_data.specs.numbers.Kinds.{has_floats}
use Rattle.dynamic_data.specs.numbers.Laws.{PlainIsShown, PlainIsRead}
use Rattle.xt_calls.specs.declared.words.Floats.{Floats}
use Rattle.xt_calls.specs.Calls.{Shows, StandsFor, read_answer}

numbers_shown : PlainIsShown → (t : Tree) → type_fault t ≡ None → has_floats t ≡ false → (read : Result Outcome Fault) → Shows Floats.Numbers t (read_answer t read) (read_answer t read)
numbers_shown law t valid none (Ok (sample v)) = (refl, law t v valid none)
numbers_shown law t valid none (Ok discarded) = (refl, refl)
numbers_shown law t valid none (Ok must_understand) = (refl, refl)
numbers_shown law t valid none (Err fault) = (refl, refl)

pub same_form : (floats : Floats) (t : Tree) → StandsFor floats floats t
same_form floats t = record { shown = λ read answer shows. shows; meant = λ text. refl }

pub bits_stand : PlainIsShown → PlainIsRead → (t : Tree) → type_fault t ≡ None → has_floats t ≡ false → (floats : Floats) → StandsFor Floats.Bits floats t
bits_stand shown read t valid none Floats.Bits = same_form Floats.Bits t
bits_stand shown read t valid none Floats.Numbers = record {
  shown = λ found answer shows. subst (Shows Floats.Numbers t (read_answer t found)) (sym shows) (numbers_shown shown t valid none found);
  meant = λ text. sym (read t text none);
}
