-- Answers of workers, and of halves of them.
use Rattle.std.proofs.Common.{◌≡◌, List, [], ◌∷◌, ◌++◌, ◌⊎◌, inl, inr, length, get_or, slice_set, refl, sym, ap, subst, ◌∙◌, arith}
use Rattle.std.specs.Prelude.{Ok, Err, IsErrOf}
use Rattle.lookup_service.specs.declared.workers.faults.ServeFault.{ServeFault}
use Rattle.lookup_service.specs.declared.workers.faults.ServeFault.TheVariants.{DoorFault, OutOfMemory}
use Rattle.lookup_service.specs.workers.Outcomes.{Answer, both_of, AllWorked, AnyTwo}

both_assoc : (a b c : Answer) → both_of (both_of a b) c ≡ both_of a (both_of b c)
both_assoc (Ok u) b c = refl
both_assoc (Err DoorFault) b c = refl
both_assoc (Err OutOfMemory) (Ok v) c = refl
both_assoc (Err OutOfMemory) (Err DoorFault) c = refl
both_assoc (Err OutOfMemory) (Err OutOfMemory) (Ok w) = refl
both_assoc (Err OutOfMemory) (Err OutOfMemory) (Err f) = refl

both_ok : (a : Answer) → a ≡ both_of a (Ok tt)
both_ok (Ok tt) = refl
both_ok (Err DoorFault) = refl
both_ok (Err OutOfMemory) = refl

-- none works
pub worked_none : {S : Type 0} (P : S → S → Answer → Type 0) → AllWorked P [] [] (Ok tt)
worked_none P = refl

-- one works
pub worked_one : {S : Type 0} (P : S → S → Answer → Type 0) (x y : S) (a : Answer) → P x y a → AllWorked P (x ∷ []) (y ∷ []) a
worked_one P x y a p = (a, Ok tt, p, refl, both_ok a)

-- what two halves come to
pub worked_both : {S : Type 0} (P : S → S → Answer → Type 0) (xs ys vs ws : List S) (a b : Answer) → AllWorked P xs vs a → AllWorked P ys ws b → AllWorked P (xs ++ ys) (vs ++ ws) (both_of a b)
worked_both P [] ys [] ws a b s t = subst (λ (o : Answer). AllWorked P ys ws (both_of o b)) (sym s) t
worked_both P [] ys (v ∷ vs) ws a b s t = absurd s
worked_both P (x ∷ xs) ys [] ws a b s t = absurd s
worked_both P (x ∷ xs) ys (v ∷ vs) ws a b s t = (s.0, both_of s.1 b, s.2, worked_both P xs ys vs ws s.1 b s.3 t, ap (λ (o : Answer). both_of o b) s.4 ∙ both_assoc s.0 s.1 b)

both_fails : (a b : Answer) → IsErrOf (both_of a b) DoorFault → IsErrOf a DoorFault ⊎ IsErrOf b DoorFault
both_fails (Ok u) b h = inr h
both_fails (Err DoorFault) b h = inl h
both_fails (Err OutOfMemory) (Ok v) h = inl h
both_fails (Err OutOfMemory) (Err f) h = inr h

-- Where a door's fault is what they come to, one of them answered it.
pub one_failed : {S : Type 0} (P : S → S → Answer → Type 0) (Q : S → S → Type 0) (xs vs : List S) (a : Answer) → ((x y : S) (b : Answer) → P x y b → IsErrOf b DoorFault → Q x y) → AllWorked P xs vs a → IsErrOf a DoorFault → AnyTwo Q xs vs
one_failed P Q [] [] a f s h = let not : IsErrOf (Ok tt) DoorFault = subst (λ (o : Answer). IsErrOf o DoorFault) s h in absurd (cc not)
one_failed P Q [] (v ∷ vs) a f s h = absurd s
one_failed P Q (x ∷ xs) [] a f s h = absurd s
one_failed P Q (x ∷ xs) (v ∷ vs) a f s h = elim (both_fails s.0 s.1 (subst (λ (o : Answer). IsErrOf o DoorFault) s.4 h)) [
  | inl e ↦ inl (f x v s.0 s.2 e)
  | inr e ↦ inr (one_failed P Q xs vs s.1 f s.3 e)
]

-- the one of a list works
pub worked_single : {S : Type 0} (P : S → S → Answer → Type 0) (xs : List S) (d y : S) (a : Answer) → length xs ≡ 1 → P (get_or xs 0 d) y a → AllWorked P xs (slice_set xs 0 y) a
worked_single P [] d y a one p = absurd (omega (arith, one))
worked_single P (x ∷ []) d y a one p = worked_one P x y a p
worked_single P (x ∷ z ∷ xs) d y a one p = absurd (omega (arith, one))

pub worked_more : {S : Type 0} (P Q : S → S → Answer → Type 0) (xs vs : List S) (a : Answer) → ((x y : S) (b : Answer) → P x y b → Q x y b) → AllWorked P xs vs a → AllWorked Q xs vs a
worked_more P Q [] [] a f s = s
worked_more P Q [] (v ∷ vs) a f s = absurd s
worked_more P Q (x ∷ xs) [] a f s = absurd s
worked_more P Q (x ∷ xs) (v ∷ vs) a f s = (s.0, s.1, f x v s.0 s.2, worked_more P Q xs vs s.1 f s.3, s.4)

pub left_at : {S : Type 0} (Q : S → S → Answer → Type 0) (x y u v : S) (a : Answer) → u ≡ x → v ≡ y → Q u v a → Q x y a
left_at Q x y u v a e f q = subst (λ o. Q x o a) f (subst (λ o. Q o v a) e q)

-- without the count that an Ok would have
pub same_fault : {T U : Type 0} (fault : ServeFault) → IsErrOf {T = T} (Err fault) DoorFault → IsErrOf {T = U} (Err fault) DoorFault
same_fault DoorFault e = refl
same_fault OutOfMemory e = absurd (cc e)
