-- Values of JSON that can be printed and read again: numbers that are numbers, strings that are texts, and no deep nesting.
use Rattle.std.proofs.Common.{◌≤◌, ℕ, List, arith}
use Rattle.std.specs.Prelude.{⊤}
use Rattle.std.specs.Str.{IsUtf8}
use Rattle.json.specs.Json as json
use Rattle.json.specs.Json.{Json}
use Rattle.json.specs.Print.{IsNumber}
use Rattle.json.specs.Tree.{depth, items_depth, members_depth, HasNumbers, ItemsHaveNumbers, MembersHaveNumbers}
use Rattle.serde_json.specs.Read.{max_depth}

abbrev mutual
  pub Fine : Json → Type 0
  Fine json.null = ⊤
  Fine (json.boolean b) = ⊤
  Fine (json.number s) = IsNumber s
  Fine (json.string s) = IsUtf8 s
  Fine (json.array js) = FineItems js
  Fine (json.object ms) = FineMembers ms

  pub FineItems : json.Items → Type 0
  FineItems json.no_items = ⊤
  FineItems (json.item j js) = Fine j × FineItems js

  pub FineMembers : json.Members → Type 0
  FineMembers json.no_members = ⊤
  FineMembers (json.member k j ms) = IsUtf8 k × Fine j × FineMembers ms

abbrev pub Sound : Json → Type 0
Sound j = Fine j × (depth j ≤ max_depth)

abbrev pub SoundItems : json.Items → Type 0
SoundItems js = FineItems js × (items_depth js ≤ max_depth)

abbrev pub SoundMembers : json.Members → Type 0
SoundMembers ms = FineMembers ms × (members_depth ms ≤ max_depth)

pub sound_items : (js : json.Items) → Sound (json.array js) → SoundItems js
sound_items js s = (s.0, omega arith)

pub sound_members : (ms : json.Members) → Sound (json.object ms) → SoundMembers ms
sound_members ms s = (s.0, omega arith)

pub first_item : (j : Json) (js : json.Items) → SoundItems (json.item j js) → Sound j
first_item j js s = (s.0.0, omega arith)

pub later_items : (j : Json) (js : json.Items) → SoundItems (json.item j js) → SoundItems js
later_items j js s = (s.0.1, omega arith)

pub first_member : (k : List ℕ) (j : Json) (ms : json.Members) → SoundMembers (json.member k j ms) → Sound j
first_member k j ms s = (s.0.1, omega arith)

pub later_members : (k : List ℕ) (j : Json) (ms : json.Members) → SoundMembers (json.member k j ms) → SoundMembers ms
later_members k j ms s = (s.0.2, omega arith)

mutual
  pub HasNumbers-Fine : (j : Json) → Fine j → HasNumbers j
  HasNumbers-Fine json.null h = tt
  HasNumbers-Fine (json.boolean b) h = tt
  HasNumbers-Fine (json.number s) h = h
  HasNumbers-Fine (json.string s) h = tt
  HasNumbers-Fine (json.array js) h = ItemsHaveNumbers-Fine js h
  HasNumbers-Fine (json.object ms) h = MembersHaveNumbers-Fine ms h

  ItemsHaveNumbers-Fine : (js : json.Items) → FineItems js → ItemsHaveNumbers js
  ItemsHaveNumbers-Fine json.no_items h = tt
  ItemsHaveNumbers-Fine (json.item j js) h = (HasNumbers-Fine j h.0, ItemsHaveNumbers-Fine js h.1)

  MembersHaveNumbers-Fine : (ms : json.Members) → FineMembers ms → MembersHaveNumbers ms
  MembersHaveNumbers-Fine json.no_members h = tt
  MembersHaveNumbers-Fine (json.member k j ms) h = (HasNumbers-Fine j h.1, MembersHaveNumbers-Fine ms h.2)
