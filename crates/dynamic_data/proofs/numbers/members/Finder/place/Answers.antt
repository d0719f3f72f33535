use Rattle.std.proofs.Common.{rules}
use Rattle.dynamic_data.proofs.OfNumbers.MemberPlaces.{places_within}
use Rattle.dynamic_data.proofs.numbers.members.Finder.place.Goals as goal

pub returns-in-ByIndex-clause-within : goal.returns-in-ByIndex-clause-within
returns-in-ByIndex-clause-within c = places_within c.args.members.now c.args.name.now c.copied.result (search rules)
