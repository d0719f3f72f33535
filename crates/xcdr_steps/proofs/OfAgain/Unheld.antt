-- What is held makes no difference to what was read, and to what is read next.
use Rattle.std.proofs.Common.{◌≡◌, ℕ, ◌+◌, ◌≤◌, max, List, Result, Ok, Err, OnOk, arith}
use Rattle.xt_shapes.specs.declared.leaves.Order.{Order}
use Rattle.xcdr_model.specs.Reading.{Spot, Reading}
use Rattle.xt_wire.specs.declared.cursor.faults.DecodeFault.{DecodeFault}
use Rattle.xt_wire.specs.declared.cursor.faults.DecodeFault.TheVariants.{Malformed, ReadFault, OutOfMemory}
use Rattle.xt_wire.specs.cursor.Standing.{Standing, Stands, Along, Within}
use Rattle.xt_wire.specs.cursor.Decoding.{spot, Answers, Decodes}
use Rattle.xt_wire.proofs.OfCursor.Ahead.{Ahead}
use Rattle.xcdr_steps.specs.again.Peeking.{HoldsAtMost, unheld}

abbrev pub reaching : ℕ → Standing → Standing
reaching n a = record a { reach = n }

pub stands_unheld : (a b : Standing) → Stands b → Stands (unheld a b)
stands_unheld a b st = record { in_region = st.in_region; in_whole = st.in_whole; from_origin = st.from_origin; fits = st.fits; told = st.told }

along_reaching : (n m k l : ℕ) (a b : Standing) → Along (reaching n a) (reaching m b) → Along (reaching k a) (reaching l b)
along_reaching n m k l a b p = record { whole = p.whole; name = p.name; faults = p.faults }

within_reaching : (n m k l : ℕ) (a b : Standing) → l ≤ max k b.place → Within (reaching n a) (reaching m b) → Within (reaching k a) (reaching l b)
within_reaching n m k l a b le p = record { along = along_reaching n m k l a b p.along; region_end = p.region_end; origin = p.origin; order = p.order; reach = le }

answers_reaching : {T A : Type 0} (view : T → A) (n m k l : ℕ) (a b : Standing) (xs : List ℕ) (q : Reading A) (r : Result T DecodeFault) → Answers view (reaching n a) (reaching m b) xs q r → Answers view (reaching k a) (reaching l b) xs q r
answers_reaching view n m k l a b xs (Ok x) (Ok t) p = record { value = p.value; ahead = p.ahead; spot = p.spot }
answers_reaching view n m k l a b xs (Ok x) (Err (Malformed at why)) p = absurd p
answers_reaching view n m k l a b xs (Ok x) (Err ReadFault) p = tt
answers_reaching view n m k l a b xs (Ok x) (Err OutOfMemory) p = tt
answers_reaching view n m k l a b xs (Err f) (Ok t) p = absurd p
answers_reaching view n m k l a b xs (Err f) (Err (Malformed at why)) p = record { at = p.at; why = p.why }
answers_reaching view n m k l a b xs (Err f) (Err ReadFault) p = tt
answers_reaching view n m k l a b xs (Err f) (Err OutOfMemory) p = tt

pub decodes_reaching : {T A : Type 0} (view : T → A) (f : Order → Spot → Reading A) (n m k l : ℕ) (a b : Standing) (r : Result T DecodeFault) → OnOk r (l ≤ max k b.place) → Decodes view f (reaching n a) (reaching m b) r → Decodes view f (reaching k a) (reaching l b) r
decodes_reaching view f n m k l a b (Ok t) le d = record { within = within_reaching n m k l a b le d.within; later = d.later; inside = d.inside; cause = tt; told = λ xs e. answers_reaching view n m k l a b xs (f a.order (spot a xs)) (Ok t) (d.told xs e) }
decodes_reaching view f n m k l a b (Err (Malformed at why)) le d = record { within = along_reaching n m k l a b d.within; later = d.later; inside = d.inside; cause = tt; told = λ xs e. answers_reaching view n m k l a b xs (f a.order (spot a xs)) (Err (Malformed at why)) (d.told xs e) }
decodes_reaching view f n m k l a b (Err ReadFault) le d = record { within = along_reaching n m k l a b d.within; later = d.later; inside = d.inside; cause = d.cause; told = λ xs e. answers_reaching view n m k l a b xs (f a.order (spot a xs)) (Err ReadFault) (d.told xs e) }
decodes_reaching view f n m k l a b (Err OutOfMemory) le d = record { within = along_reaching n m k l a b d.within; later = d.later; inside = d.inside; cause = tt; told = λ xs e. answers_reaching view n m k l a b xs (f a.order (spot a xs)) (Err OutOfMemory) (d.told xs e) }

on_ok : {T F P : Type 0} (r : Result T F) → P → OnOk r P
on_ok (Ok t) p = p
on_ok (Err f) p = tt

-- what was read, whatever is held now
pub settled : {T A : Type 0} {view : T → A} {f : Order → Spot → Reading A} {a : Standing} {r : Result T DecodeFault} (n : ℕ) (b : Standing) → Decodes view f a (reaching n b) r → Decodes view f a (unheld a b) r
settled {view = view} {f = f} {a = a} {r = r} n b d = decodes_reaching view f a.reach n a.reach (max a.reach b.place) a b r (on_ok r (omega arith)) d

pub ahead_settled : {A : Type 0} {f k : Order → Spot → Reading A} {a : Standing} (n : ℕ) (b : Standing) → Ahead f k a (reaching n b) → Ahead f k a (unheld a b)
ahead_settled {a = a} n b u = record { within = within_reaching a.reach n a.reach (max a.reach b.place) a b (omega arith) u.within; later = u.later; inside = u.inside; told = u.told }

-- what is read without going on
pub settled_here : {T A : Type 0} {view : T → A} {f : Order → Spot → Reading A} {r : Result T DecodeFault} (n : ℕ) (b : Standing) → Decodes view f b b r → Decodes view f (reaching n b) (reaching n b) r
settled_here {view = view} {f = f} {r = r} n b d = decodes_reaching view f b.reach b.reach n n b b r (on_ok r (omega arith)) d

-- What was read behind the octets that were held, which are all read then.
pub read_behind : {T A : Type 0} {view : T → A} {f : Order → Spot → Reading A} {t : T} (n : ℕ) (a b c : Standing) → HoldsAtMost n a b → c.place ≡ b.place + n → Decodes view f b c (Ok t) → Decodes view f (unheld a b) c (Ok t)
read_behind {view = view} {f = f} {t = t} n a b c held at d = decodes_reaching view f b.reach c.reach (max a.reach b.place) c.reach b c (Ok t) (omega (arith, held, at, d.within.reach)) d

-- nor does it where nothing was read
pub unread_behind : {T A : Type 0} {view : T → A} {f : Order → Spot → Reading A} {e : DecodeFault} (a b c : Standing) → Decodes view f b c (Err e) → Decodes view f (unheld a b) c (Err e)
unread_behind {view = view} {f = f} {e = e} a b c d = decodes_reaching view f b.reach c.reach (max a.reach b.place) c.reach b c (Err e) tt d

pub unread_now : {T A : Type 0} {view : T → A} {f : Order → Spot → Reading A} {e : DecodeFault} (a b : Standing) → Decodes view f a (unheld a b) (Err e) → Decodes view f a b (Err e)
unread_now {view = view} {f = f} {e = e} a b d = decodes_reaching view f a.reach (max a.reach b.place) a.reach b.reach a b (Err e) tt d

-- what was read, where nothing is held
pub read_now : {T A : Type 0} {view : T → A} {f : Order → Spot → Reading A} {t : T} (a b : Standing) → HoldsAtMost 0 a b → Decodes view f a (unheld a b) (Ok t) → Decodes view f a b (Ok t)
read_now {view = view} {f = f} {t = t} a b held d = decodes_reaching view f a.reach (max a.reach b.place) a.reach b.reach a b (Ok t) (omega (arith, held)) d
