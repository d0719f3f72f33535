use Rattle.std.proofs.Common.{◌∙◌, ◌≡◌, sym, subst, List}
use Rattle.std.proofs.lemmas.Result.{err_from_is_err_and}
use Rattle.type_trees.specs.declared.types.HashId.{HashId}
use Rattle.lookup_fetch.specs.declared.plan.Next.TheVariants.{Ask}
use Rattle.lookup_fetch.specs.Plans.{IsAsking}
use Rattle.lookup_fetch.specs.Rounds.{found_in, plan}
use Rattle.lookup_fetch.proofs.Going.{over_nothing, over_many, over_whole, over_asked, over_stopped}
use Rattle.lookup_fetch.proofs.rounds.round.Goals as goal

pub returns-in_err-next-clause-round : goal.returns-in_err-next-clause-round
returns-in_err-next-clause-round g c =
    let p = err_from_is_err_and c.from_residual.result c.from_residual.ensures.1 in
    rw (p.1, p.2) (over_nothing c.args.ids.now c.args.tag c.args.held.now _ _ _ _)

pub ask-requires : goal.ask-requires
ask-requires g c = subst (IsAsking c.args.held.now) (sym c.as_slice.ensures) (rw c.in-Ask.is at c.in_ok-next.ensures.good)

pub returns-in-Many-clause-round : goal.returns-in-Many-clause-round
returns-in-Many-clause-round g c = over_many c.args.ids.now c.args.tag c.args.held.now _ _ _ _ (sym c.in-Many.is ∙ c.in_ok-next.ensures.plan)

pub returns-in-Whole-clause-round : goal.returns-in-Whole-clause-round
returns-in-Whole-clause-round g c = over_whole c.args.ids.now c.args.tag c.args.held.now _ _ _ _ c.in-Whole.objects (sym c.in-Whole.is ∙ c.in_ok-next.ensures.plan)

pub returns-in-Whole-clause-own : goal.returns-in-Whole-clause-own
returns-in-Whole-clause-own g c = rw c.in-Whole.is at c.in_ok-next.ensures.good

pub returns-in_err-ask-in-Ask-clause-round : goal.returns-in_err-ask-in-Ask-clause-round
returns-in_err-ask-in-Ask-clause-round g c =
    let p = err_from_is_err_and c.from_residual-in_err-ask-in-Ask.result c.from_residual-in_err-ask-in-Ask.ensures.1 in
    let planned = subst (λ (o : List HashId). Ask o ≡ plan (found_in c.args.held.now) c.args.ids.now) (sym c.as_slice.ensures) (sym c.in-Ask.is ∙ c.in_ok-next.ensures.plan) in
    rw (p.1, p.2) (over_stopped c.args.ids.now c.args.tag c.args.held.now _ _ _ _ _ _ _ _ (c.in_err-ask-in-Ask.ensures.asks c.args.ids.now planned))

pub returns-in_ok-ask-in-Ask-clause-round : goal.returns-in_ok-ask-in-Ask-clause-round
returns-in_ok-ask-in-Ask-clause-round g c =
    let planned = subst (λ (o : List HashId). Ask o ≡ plan (found_in c.args.held.now) c.args.ids.now) (sym c.as_slice.ensures) (sym c.in-Ask.is ∙ c.in_ok-next.ensures.plan) in
    over_asked c.args.ids.now c.args.tag c.args.held.now _ _ _ _ _ _ _ _ (c.in_ok-ask-in-Ask.ensures.asks c.args.ids.now planned)
