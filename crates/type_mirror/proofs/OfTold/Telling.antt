-- What a push tells of its peer.
use Rattle.std.proofs.Common.{◌≡◌, List, [], ◌∷◌, ◌++◌}
use Rattle.std.specs.Prelude.{Some}
use Rattle.std.specs.List.{All}
use Rattle.std.proofs.lemmas.List.Elements.{All-nil, All-cons, All-head, All-tail, All-append}
use Rattle.type_lookup.specs.declared.messages.messages.Fetched.{Fetched}
use Rattle.type_object.specs.visits.Visits.{Known as KnownBy}
use Rattle.type_mirror.specs.declared.told.told.Told.{Told}
use Rattle.type_mirror.specs.declared.told.told.What.{What}
use Rattle.type_mirror.specs.declared.told.told.What.TheVariants.{Added, Known, Clash, Full}
use Rattle.type_mirror.specs.told.Tells.{Holds, IsTold, IsGoodWhat, IsGood, HasAll}

abbrev Has : KnownBy → Fetched → Type 0
Has known object = known object.id ≡ Some object.octets

holds_good : (known : KnownBy) (o : Fetched) (w : What) → Holds known o w → IsGoodWhat w → Has known o
holds_good known o Added h g = h
holds_good known o Known h g = h
holds_good known o (Clash t) h g = absurd g
holds_good known o Full h g = absurd g

pub good : (known : KnownBy) (objects : List Fetched) (told : List Told) → IsTold known objects told → All IsGood told → HasAll known objects
good known [] [] t g = All-nil (Has known)
good known [] (x ∷ xs) t g = absurd t
good known (o ∷ os) [] t g = absurd t
good known (o ∷ os) (x ∷ xs) t g = All-cons (Has known) o os (holds_good known o x.what t.1 (All-head IsGood x xs g)) (good known os xs t.2 (All-tail IsGood x xs g))

pub both : (ka kb : KnownBy) (os ps : List Fetched) (tb ta : List Told) → HasAll ka os → HasAll kb ps → IsTold kb os tb → All IsGood tb → IsTold ka ps ta → All IsGood ta → HasAll ka (os ++ ps) × HasAll kb (os ++ ps)
both ka kb os ps tb ta ha hb ib gb ia ga = (All-append (Has ka) os ps ha (good ka ps ta ia ga), All-append (Has kb) os ps (good kb os tb ib gb) hb)
