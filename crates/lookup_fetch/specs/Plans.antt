-- What holds of what comes next in a fetch, beside that it is the plan (own).
use Rattle.std.specs.Prelude.{◌≡◌, ◌≤◌, List, None, length}
use Rattle.std.specs.List.{All}
use Rattle.type_trees.specs.declared.types.HashId.{HashId}
use Rattle.type_object.specs.Names.{named}
use Rattle.type_object.specs.Pools.{Texts}
use Rattle.type_lookup.specs.declared.messages.messages.Fetched.{Fetched}
use Rattle.type_lookup.specs.messages.Spelling.{IsKnownId}
use Rattle.lookup_fetch.specs.declared.plan.Next.{Next}
use Rattle.lookup_fetch.specs.declared.plan.Next.TheVariants.{Many, Whole, Ask}
use Rattle.lookup_fetch.specs.Rounds.{found_in}

-- an object under the identifier that is its own
abbrev pub IsOwn : Fetched → Type 0
IsOwn object = object.id ≡ named object.octets

-- What is asked for in a round: at most 64 identifiers of objects, of which none is held.
pub record IsAsking (held : Texts) (asked : List HashId) : Type 0 where
  pub few : length asked ≤ 64
  pub kinds : All IsKnownId asked
  pub new : All (λ id. found_in held id ≡ None) asked

abbrev pub IsGoodPlan : Texts → Next → Type 0
IsGoodPlan held Many = Unit {0}
IsGoodPlan held (Whole objects) = All IsOwn objects
IsGoodPlan held (Ask asked) = IsAsking held asked
