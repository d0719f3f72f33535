-- What a door in memory holds after it got a link back.
use Rattle.std.proofs.Common.{◌≡◌, ℕ, ◌+◌, ◌<◌, ◌||◌, Some, nat_lt, map, Bool, true, false, List, [], ◌∷◌, ◌++◌, ap, ◌∙◌, refl, length, take, slice_set, arith, rules}
use Rattle.std.proofs.lemmas.List.{take_more_set}
use Rattle.std.proofs.lemmas.Grind.{common_steps}
use Rattle.xt_lists.specs.Over.{written_over}
use Rattle.std.specs.List.{list_any}
use Rattle.xt_outside.specs.Links.{Held, any_fault}
use Rattle.xt_outside.specs.declared.memory_links.MemLink.{MemLink}
use Rattle.xt_outside.specs.declared.memory_doors.Turn.{Turn}
use Rattle.xt_outside.specs.declared.memory_doors.Turn.TheVariants.{Waiting, Out, Ended}
use Rattle.xt_outside.specs.MemoryDoors.{is_out, held_by}
use Rattle.xt_outside.specs.MemoryLinks.{entry_of}

held_by-append : (xs ys : List Turn) → held_by (xs ++ ys) ≡ held_by xs ++ held_by ys
held_by-append [] ys = refl
held_by-append (Waiting script ∷ xs) ys = held_by-append xs ys
held_by-append (Out ∷ xs) ys = held_by-append xs ys
held_by-append (Ended link ∷ xs) ys = ap (λ l. entry_of link ∷ l) (held_by-append xs ys)

pub out-within : (out : Bool) (at : ℕ) (turns : List Turn) → is_out out at turns ≡ true → at < length turns
out-within false at turns e = cc
out-within true at turns e = search rules

over-set : (turns : List Turn) (at : ℕ) (turn : Turn) → written_over turns (slice_set turns at turn) ≡ slice_set turns at turn
over-set turns at turn = grind (arith, common_steps)

pub held-ended : (turns given : List Turn) (at : ℕ) (link : MemLink) → at < length given → given ≡ turns
    → held_by (take (at + 1) (written_over turns (slice_set given at (Ended link)))) ≡ held_by (take at turns) ++ entry_of link ∷ []
held-ended turns given at link lt e =
    ap (λ g. held_by (take (at + 1) (written_over turns (slice_set g at (Ended link))))) e
    ∙ ap (λ l. held_by (take (at + 1) l)) (over-set turns at (Ended link))
    ∙ ap held_by (take_more_set turns at (Ended link) (omega (arith, ap length e)))
    ∙ held_by-append (take at turns) (Ended link ∷ [])

pub told-all : {X : Type 0} (f : X → List Held) (xs : List X) → map (λ x. Some (f x)) xs ≡ map (λ (held : List Held). Some held) (map f xs)
told-all f [] = refl
told-all f (x ∷ xs) = ap (λ l. Some (f x) ∷ l) (told-all f xs)

pub any-map : {X : Type 0} (f : X → ℕ) (xs : List X) → any_fault (map f xs) ≡ list_any (λ x. nat_lt 0 (f x)) xs
any-map f [] = refl
any-map f (x ∷ xs) = ap (λ b. nat_lt 0 (f x) || b) (any-map f xs)
