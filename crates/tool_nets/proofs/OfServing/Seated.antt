-- Seats with new doors and passes that know all.
use Rattle.std.proofs.Common.{◌≡◌, ℕ, ◌+◌, List, [], ◌∷◌, ◌++◌, Bool, false, length, length-append, sym, ap, subst, arith}
use Rattle.std.specs.Prelude.{All, MatchOption, Option, Some}
use Rattle.std.proofs.lemmas.List.Elements.{All-push, All-weaker}
use Rattle.xt_io.specs.Links.{Held, IsNewDoor}
use Rattle.type_object.specs.Pools.{Texts}
use Rattle.type_registry.specs.Passed.{PassView}
use Rattle.tool_nets.specs.serving.Seats.{IsReady, Knows}

-- one was moved from one list to another
pub moved_count : {X Y : Type 0} (xs before : List X) (x : X) (ys after : List Y) (y : Y) (n : ℕ) → xs ≡ before ++ x ∷ [] → after ≡ ys ++ y ∷ [] → length ys + length xs ≡ n → length after + length before ≡ n
moved_count xs before x ys after y n e f count = omega (arith, ap length e, ap length f, length-append before (x ∷ []), length-append ys (y ∷ []), count)

-- one was taken from each of two lists
pub both_fewer : {X Y : Type 0} (xs before : List X) (x : X) (ys after : List Y) (y : Y) → xs ≡ before ++ x ∷ [] → ys ≡ after ++ y ∷ [] → length xs ≡ length ys → length before ≡ length after
both_fewer xs before x ys after y e f same = omega (arith, ap length e, ap length f, length-append before (x ∷ []), length-append after (y ∷ []), same)

-- the last one of a list was taken
pub popped : {X : Type 0} (old new : List X) (r : Option X) (x : X) → r ≡ Some x → MatchOption r ((old ≡ []) × (new ≡ [])) (λ last. old ≡ new ++ last ∷ []) → old ≡ new ++ x ∷ []
popped {X} old new r x e taken = subst (λ (o : Option X). MatchOption o ((old ≡ []) × (new ≡ [])) (λ last. old ≡ new ++ last ∷ [])) e taken

-- one more
pub counted_more : {X : Type 0} (xs all : List X) (x : X) (n : ℕ) → all ≡ xs ++ x ∷ [] → length xs ≡ n → length all ≡ n + 1
counted_more xs all x n e count = omega (arith, ap length e, length-append xs (x ∷ []), count)

pub all_more : {X : Type 0} (P : X → Type 0) (xs all : List X) (x : X) → all ≡ xs ++ x ∷ [] → P x → All P xs → All P all
all_more P xs all x e one before = subst (All P) (sym e) (All-push P xs x before one)

module _ {D P : Type 0} (name : List ℕ → List ℕ) (registry : List ℕ) (pool : Texts) (held : D → Option (List Held)) (faults : D → ℕ) (out : D → Bool) (door : P → D) (pass : P → PassView) where
  abbrev pub Ready : P → Type 0
  Ready seat = IsReady name registry pool (pass seat) (held (door seat)) (out (door seat)) (faults (door seat))

  pub none_out : (seats : List P) → All Ready seats → All (λ seat. out (door seat) ≡ false) seats
  none_out seats ready = All-weaker Ready (λ seat. out (door seat) ≡ false) (λ seat is. is.new_door.none_out) seats ready

  pub of_registry : (seats : List P) → All Ready seats → All (λ seat. (pass seat).registry ≡ registry) seats
  of_registry seats ready = All-weaker Ready (λ seat. (pass seat).registry ≡ registry) (λ seat is. is.knows.registry_is) seats ready

  -- one more, at this door
  pub ready_more : (seats all : List P) (seat : P) (there : D) → all ≡ seats ++ seat ∷ [] → door seat ≡ there → Knows name registry pool (pass seat) → IsNewDoor (held there) (out there) (faults there) → All Ready seats → All Ready all
  ready_more seats all seat there e is knows new ready =
      let now : Ready seat = record { knows = knows; new_door = subst (λ (d : D). IsNewDoor (held d) (out d) (faults d)) (sym is) new } in
      subst (All Ready) (sym e) (All-push Ready seats seat ready now)
