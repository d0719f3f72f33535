-- What workers answer together, and what holds of what they work on before and after (own).
use Rattle.std.specs.Prelude.{◌≡◌, ◌⊎◌, ℕ, Bool, true, false, List, [], ◌∷◌, Result, Ok, Err}
use Rattle.std.specs.Borrow.{MutBor}
use Rattle.std.specs.Fn.{Shared}
use Rattle.xt_io.specs.declared.NetFault.{NetFault}
use Rattle.xt_io.specs.declared.NetFault.TheVariants as net
use Rattle.lookup_service.specs.declared.workers.faults.ServeFault.{ServeFault}
use Rattle.lookup_service.specs.declared.workers.faults.ServeFault.TheVariants.{DoorFault, OutOfMemory}

abbrev pub Answer : Type 0
Answer = Result (Unit {0}) ServeFault

-- What a worker answers: whether memory sufficed in all of its sessions, or why a link was refused.
abbrev pub answer_of : Result Bool NetFault → Answer
answer_of (Ok true) = Ok tt
answer_of (Ok false) = Err OutOfMemory
answer_of (Err net.Failed) = Err DoorFault
answer_of (Err net.OutOfMemory) = Err OutOfMemory

-- What two answers come to: a door's fault goes before want of memory.
abbrev pub both_of : Answer → Answer → Answer
both_of (Ok a) second = second
both_of (Err DoorFault) second = Err DoorFault
both_of (Err OutOfMemory) (Ok b) = Err OutOfMemory
both_of (Err OutOfMemory) (Err fault) = Err fault

-- Each was left so with an answer of its own, and together these answers come to this one.
abbrev pub AllWorked : {S : Type 0} → (S → S → Answer → Type 0) → List S → List S → Answer → Type 0
AllWorked P [] [] answer = answer ≡ Ok tt
AllWorked P [] (y ∷ ys) answer = ⊥
AllWorked P (x ∷ xs) [] answer = ⊥
AllWorked P (x ∷ xs) (y ∷ ys) answer = (one others : Answer) × P x y one × AllWorked P xs ys others × (answer ≡ both_of one others)

-- this holds at one place of two lists
abbrev pub AnyTwo : {S : Type 0} → (S → S → Type 0) → List S → List S → Type 0
AnyTwo P [] ys = ⊥
AnyTwo P (x ∷ xs) [] = ⊥
AnyTwo P (x ∷ xs) (y ∷ ys) = P x y ⊎ AnyTwo P xs ys

abbrev pub without_count : Result ℕ ServeFault → Answer
without_count (Ok n) = Ok tt
without_count (Err fault) = Err fault

module _ {F T : Type 0} (g : Shared F (MutBor T × Unit {0}) (Answer × (MutBor T × Unit {0}))) (f : F) where
  -- f may be called with a `&mut` to x
  abbrev pub MayWork : T → Type 0
  MayWork x = (p : MutBor T) → p.now ≡ x → g.pre f (p, tt)

  -- a call of f with a `&mut` to x may give this answer and leave y there
  pub record Works (x y : T) (answer : Answer) : Type 0 where
    pub argument : MutBor T
    pub argument_is : argument.now ≡ x
    pub after_call : MutBor T
    pub call : g.post f (argument, tt) (answer, (after_call, tt))
    pub left : after_call.now ≡ y
