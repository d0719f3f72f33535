-- What a walk through known objects has learned so far (this profile's own).
use Rattle.std.specs.Prelude.{◌≡◌, ℕ, List, true, false, None}
use Rattle.type_trees.specs.declared.types.HashId.{HashId}
use Rattle.type_object.specs.References.{is_among}
use Rattle.type_object.specs.visits.Visits.{Known, is_known, referred, visits}

-- both say the same of these identifiers
abbrev pub Agrees : Known → Known → List HashId → Type 0
Agrees k l tried = (id : HashId) → is_among id tried ≡ true → l id ≡ k id

-- what was seen was tried, and what was tried and not seen isn't known
pub record Tells (k : Known) (tried seen : List HashId) : Type 0 where
  pub among : (id : HashId) → is_among id seen ≡ true → is_among id tried ≡ true
  pub unknown : (id : HashId) → is_among id tried ≡ true → is_among id seen ≡ false → k id ≡ None

abbrev pub visits_by : Known → ℕ → List HashId → List HashId → List HashId
visits_by k n seen todo = visits (is_known k) (referred k) n seen todo

-- Whatever is learned later of other identifiers, so many visits from here are those from there.
abbrev pub Leads : Known → List HashId → ℕ → List HashId → List HashId → ℕ → List HashId → List HashId → Type 0
Leads k tried n seen todo m seen_then todo_then = (l : Known) → Agrees k l tried → visits_by l n seen todo ≡ visits_by l m seen_then todo_then

-- Between the two something was learned of identifiers alone that had not been tried.
pub record Further (k : Known) (tried : List HashId) (l : Known) (tried_then : List HashId) : Type 0 where
  pub same : Agrees k l tried
  pub more : (id : HashId) → is_among id tried ≡ true → is_among id tried_then ≡ true
