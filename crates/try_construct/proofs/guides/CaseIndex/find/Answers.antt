use Rattle.std.proofs.Common.{◌≡◌, refl, sym, ap, ◌∙◌, Some, None, rules}
use Rattle.std.specs.Int.{w128}
use Rattle.std.specs.Option.{option_copied}
use Rattle.std.specs.BTreeMap.{get}
use Rattle.std.specs.Ordering.{int_cmp}
use Rattle.std.proofs.lemmas.Int.{to_z-of_z}
use Rattle.try_construct.proofs.guides.CaseIndex.find.Goals as goal

pub returns-in-Some : goal.returns-in-Some
returns-in-Some c =
    let value = rw (to_z-of_z w128 c.args.number (search rules)) at c.get.ensures.value in
    let found : get int_cmp c.args.self.now.labels c.args.number ≡ Some c.in-Some.at.now = sym value ∙ ap option_copied c.in-Some.is in
    rw found refl

pub returns-in-None : goal.returns-in-None
returns-in-None c =
    let value = rw (to_z-of_z w128 c.args.number (search rules)) at c.get.ensures.value in
    let found : get int_cmp c.args.self.now.labels c.args.number ≡ None = sym value ∙ ap option_copied c.in-None.is in
    rw found refl
