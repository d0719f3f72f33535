-- Parts in regions of their own: what was read in the region is what is read of the part.
use Rattle.std.proofs.Common.{◌≡◌, refl, subst, ℕ, ◌⊎◌, Ok, Err, arith, inl, inr}
use Rattle.xt_shapes.specs.declared.leaves.Order.{Order}
use Rattle.xcdr_model.specs.Reading.{Spot, Reading, ◌>>=◌, step, passing, filling, is_used_up, dheader}
use Rattle.xt_wire.specs.declared.cursor.cursor.Outer.{Outer}
use Rattle.xt_wire.specs.declared.cursor.faults.DecodeFault.{DecodeFault}
use Rattle.xt_wire.specs.declared.cursor.frames.Framing.{Framing}
use Rattle.xt_wire.specs.declared.cursor.frames.Framing.TheVariants.{Open, Passed, Filled}
use Rattle.xt_wire.specs.cursor.Standing.{Standing, Stands, Within, Entered}
use Rattle.xt_wire.specs.cursor.Decoding.{Decodes, Fails}
use Rattle.xt_wire.specs.cursor.Frames.{bounded, framed, Opened, OpenFails, MayLeave, MayClose, Closes, HasRest}
use Rattle.xt_wire.proofs.OfCursor.Ahead.{Ahead, begins, goes_on, fails, last, read_fault, leave_fails, region_passed, region_filled, region_rest, region_fails}

fails_here : {S A : Type 0} (wanted : S → A) (f : Order → Spot → Reading A) {a b : Standing} {e : DecodeFault} → Fails a b e → Decodes wanted f a b (Err e)
fails_here wanted f {a} e = read_fault {f = f} {k = f} wanted (begins f f a (λ s. refl)) e

-- ---- a region of n octets that was entered

passed_fails : {T S A : Type 0} (view : T → A) (wanted : S → A) (f : Order → Spot → Reading A) (n : ℕ) (a b c : Standing) (outer : Outer) (e : DecodeFault) → Stands a → Entered n a b outer → Decodes view f b c (Err e) → Decodes wanted (λ o s. passing n (f o) s) a c (Err e)
unfolding passing
passed_fails view wanted f n a b c outer e st en d = region_fails view wanted f (λ x s. Ok (x.0, step n s)) n a b c outer e st en d

pub filled_fails : {T S A : Type 0} (view : T → A) (wanted : S → A) (f : Order → Spot → Reading A) (n : ℕ) (a b c : Standing) (outer : Outer) (e : DecodeFault) → Stands a → Entered n a b outer → Decodes view f b c (Err e) → Decodes wanted (λ o s. filling n (f o) s) a c (Err e)
unfolding filling
filled_fails view wanted f n a b c outer e st en d = region_fails view wanted f (λ x s. is_used_up x >>= λ y. Ok (y, step n s)) n a b c outer e st en d

filled_stops : {T A : Type 0} {t : T} (view : T → A) (f : Order → Spot → Reading A) (n : ℕ) (a b c d : Standing) (outer : Outer) (e : DecodeFault) → Stands a → Stands c → Entered n a b outer → Decodes view f b c (Ok t) → (HasRest c d e ⊎ Fails c d e)
    → Decodes view (λ o s. filling n (f o) s) a d (Err e)
filled_stops {t = t} view f n a b c d outer e st stc en x (inl h) = rw (h.fault, h.same) (region_rest view f n a b c outer t st stc en x h.some)
filled_stops {t = t} view f n a b c d outer e st stc en x (inr l) = fails_here view (λ o s. filling n (f o) s) (leave_fails n a b c d outer e stc en x.within x.later l)

-- the part's region, entered after `m`, ends: all of it was read
pub filled_closes : {T A : Type 0} {t : T} (view : T → A) (f : Order → Spot → Reading A) (n : ℕ) (a b c d : Standing) (outer : Outer) → Stands a → Stands c → Entered n a b outer → Decodes view f b c (Ok t) → Closes Filled outer c d (Ok tt)
    → Decodes view (λ o s. filling n (f o) s) a d (Ok t)
filled_closes {t = t} view f n a b c d outer st stc en x l = region_filled view f n a b c d outer t st stc en x l.0 l.1

pub content_stops : {T A : Type 0} {t : T} (view : T → A) (f : Order → Spot → Reading A) (n : ℕ) (a b c d : Standing) (outer : Outer) (e : DecodeFault) → Stands a → Stands c → Entered n a b outer → Decodes view f b c (Ok t) → Closes Filled outer c d (Err e)
    → Decodes view (λ o s. filling n (f o) s) a d (Err e)
content_stops {t = t} view f n a b c d outer e st stc en x l = filled_stops {t = t} view f n a b c d outer e st stc en x l

-- ---- behind the count of the part's octets

abbrev at_count : {A : Type 0} → Framing → (Order → Spot → Reading A) → ℕ → Order → Spot → Reading A
at_count fr f n o s = bounded fr n f o s

counted : {A : Type 0} (fr : Framing) (f : Order → Spot → Reading A) (n : ℕ) (a m : Standing) → (fr ≡ Passed) ⊎ (fr ≡ Filled) → Decodes {T = ℕ} (λ n. n) dheader a m (Ok n) → Ahead (framed fr f) (at_count fr f n) a m
counted fr f n a m (inl e) d = rw e (goes_on (λ n. n) dheader (at_count Passed f) (begins (framed Passed f) _ a (λ s. refl)) d)
counted fr f n a m (inr e) d = rw e (goes_on (λ n. n) dheader (at_count Filled f) (begins (framed Filled f) _ a (λ s. refl)) d)

pub frame_unopened : {S A : Type 0} (fr : Framing) (wanted : S → A) (f : Order → Spot → Reading A) (a b : Standing) (e : DecodeFault) → OpenFails fr a b e → Decodes wanted (framed fr f) a b (Err e)
frame_unopened Open wanted f a b e x = absurd x
frame_unopened Passed wanted f a b e x = fails (λ n. n) wanted dheader (at_count Passed f) (begins (framed Passed f) _ a (λ s. refl)) x
frame_unopened Filled wanted f a b e x = fails (λ n. n) wanted dheader (at_count Filled f) (begins (framed Filled f) _ a (λ s. refl)) x

pub frame_fails : {T A : Type 0} (fr : Framing) (view : T → A) (f : Order → Spot → Reading A) (a b c : Standing) (outer : Outer) (e : DecodeFault) → Opened fr a b outer → Decodes view f b c (Err e) → Decodes view (framed fr f) a c (Err e)
frame_fails Open view f a b c outer e x d = subst (λ (s : Standing). Decodes view f s c (Err e)) x d
frame_fails Passed view f a b c outer e x d = last view (at_count Passed f x.count) (counted Passed f x.count a x.middle (inl refl) x.read) (passed_fails view view f x.count x.middle b c outer e x.stands x.entered d)
frame_fails Filled view f a b c outer e x d = last view (at_count Filled f x.count) (counted Filled f x.count a x.middle (inr refl) x.read) (filled_fails view view f x.count x.middle b c outer e x.stands x.entered d)

pub may_close : (fr : Framing) (a b c : Standing) (outer : Outer) → Opened fr a b outer → Within b c → MayClose fr outer c
may_close Open a b c outer x w = tt
may_close Passed a b c outer x w = record { ahead = omega (arith, x.entered.fits, x.entered.outer, x.entered.region_end, x.stands.in_region, w.region_end); within = omega (arith, x.entered.outer, x.stands.in_whole, x.entered.along.whole, w.along.whole) }
may_close Filled a b c outer x w = record { ahead = omega (arith, x.entered.fits, x.entered.outer, x.entered.region_end, x.stands.in_region, w.region_end); within = omega (arith, x.entered.outer, x.stands.in_whole, x.entered.along.whole, w.along.whole) }

pub may_leave : (n : ℕ) (a b c : Standing) (outer : Outer) → Stands a → Entered n a b outer → Within b c → MayLeave outer c
may_leave n a b c outer st x w = record { ahead = omega (arith, x.fits, x.outer, x.region_end, st.in_region, w.region_end); within = omega (arith, x.outer, st.in_whole, x.along.whole, w.along.whole) }

pub frame_closes : {T A : Type 0} {t : T} (fr : Framing) (view : T → A) (f : Order → Spot → Reading A) (a b c d : Standing) (outer : Outer) → Stands c → Opened fr a b outer → Decodes view f b c (Ok t) → Closes fr outer c d (Ok tt) → Decodes view (framed fr f) a d (Ok t)
frame_closes {t = t} Open view f a b c d outer st x r l = rw l (subst (λ (s : Standing). Decodes view f s c (Ok t)) x r)
frame_closes {t = t} Passed view f a b c d outer st x r l = last view (at_count Passed f x.count) (counted Passed f x.count a x.middle (inl refl) x.read) (region_passed view f x.count x.middle b c d outer t x.stands st x.entered r l)
frame_closes {t = t} Filled view f a b c d outer st x r l = last view (at_count Filled f x.count) (counted Filled f x.count a x.middle (inr refl) x.read) (region_filled view f x.count x.middle b c d outer t x.stands st x.entered r l.0 l.1)

pub frame_stops : {T A : Type 0} {t : T} (fr : Framing) (view : T → A) (f : Order → Spot → Reading A) (a b c d : Standing) (outer : Outer) (e : DecodeFault) → Stands c → Opened fr a b outer → Decodes view f b c (Ok t) → Closes fr outer c d (Err e) → Decodes view (framed fr f) a d (Err e)
frame_stops {t = t} Open view f a b c d outer e st x r l = absurd l
frame_stops {t = t} Passed view f a b c d outer e st x r l = last view (at_count Passed f x.count) (counted Passed f x.count a x.middle (inl refl) x.read) (fails_here view (λ o s. passing x.count (f o) s) (leave_fails x.count x.middle b c d outer e st x.entered r.within r.later l))
frame_stops {t = t} Filled view f a b c d outer e st x r l = last view (at_count Filled f x.count) (counted Filled f x.count a x.middle (inr refl) x.read) (filled_stops {t = t} view f x.count x.middle b c d outer e x.stands st x.entered r l)
