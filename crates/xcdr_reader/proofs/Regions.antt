-- What is made of a reading in a region is read in the region.
use Rattle.std.proofs.Common.{◌≡◌, refl, ap, ℕ, true, false, cond, ◌==◌, length, Ok, Err}
use Rattle.xcdr_model.specs.declared.malformed.Why.TheVariants.{LengthRest}
use Rattle.xcdr_model.specs.Reading.{Spot, Reading, fault_at, ◌>>=◌, passing, filling, front, step, is_used_up}
use Rattle.xcdr_model.specs.Xcdr2Reading.{done}
use Rattle.xcdr_reader.proofs.Gathering.{bind_bind}

pub done_bind : {A B C : Type 0} (g : A → B) (r : Reading C) (k : C × Spot → Reading A) → done g (r >>= k) ≡ (r >>= λ x. done g (k x))
done_bind g r k = bind_bind r k (λ x. Ok (g x.0, x.1))

abbrev used : {A : Type 0} → ℕ → Spot → A × Spot → Reading A
used n s x = is_used_up x >>= λ y. Ok (y, step n s)

done_used : {A B : Type 0} (g : A → B) (n : ℕ) (s : Spot) (x : A × Spot) → done g (used n s x) ≡ used n s (g x.0, x.1)
unfolding ◌>>=◌
done_used g n s x = elim (length x.1.rest == 0) as (λ b. done g (cond b (Ok x.0) (fault_at x.1.at LengthRest) >>= λ y. Ok (y, step n s)) ≡ (cond b (Ok (g x.0)) (fault_at x.1.at LengthRest) >>= λ y. Ok (y, step n s))) [ true ↦ refl | false ↦ refl ]

done_region : {A B : Type 0} (g : A → B) (n : ℕ) (s : Spot) (r : Reading A) → done g (r >>= used n s) ≡ (done g r >>= used n s)
unfolding ◌>>=◌
done_region g n s (Ok x) = done_used g n s x
done_region g n s (Err f) = refl

pub done_filling : {A B : Type 0} (g : A → B) (n : ℕ) (f : Spot → Reading A) (s : Spot) → done g (filling n f s) ≡ filling n (λ s1. done g (f s1)) s
unfolding filling
done_filling g n f s = done_region g n s (f (front n s))

pub same_filling : {A : Type 0} (n : ℕ) (f h : Spot → Reading A) (s : Spot) → f (front n s) ≡ h (front n s) → filling n f s ≡ filling n h s
unfolding filling
same_filling n f h s same = ap (λ r. r >>= used n s) same

pub same_passing : {A : Type 0} (n : ℕ) (f h : Spot → Reading A) (s : Spot) → f (front n s) ≡ h (front n s) → passing n f s ≡ passing n h s
unfolding passing
same_passing n f h s same = ap (λ r. r >>= λ x. Ok (x.0, step n s)) same
