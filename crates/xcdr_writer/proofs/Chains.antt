-- Spellings written in two parts, or in a loop over parts.
use Rattle.std.proofs.Common.{◌≡◌, refl, sym, ap, ◌∙◌, subst, ℕ, List, [], ◌++◌, replicate, Result, Ok, Err, Bool, true, false, Option, Some, None, ℤ, arith, append-nil}
use Rattle.xt_shapes.specs.declared.leaves.Order.{Order}
use Rattle.xt_shapes.specs.declared.leaves.Order.TheVariants.{Big, Little}
use Rattle.xt_shapes.specs.declared.leaves.Rep.{Rep}
use Rattle.xt_shapes.specs.declared.leaves.Rep.TheVariants.{Xcdr1, Xcdr2}
use Rattle.xt_shapes.specs.Select.{select}
use Rattle.xt_shapes.specs.Shape.{Head, Cases}
use Rattle.std.specs.Option.{is_some, option_map}
use Rattle.value_writer.specs.Slots.{slot_of}
use Rattle.xt_shapes.specs.Vals.{Val, Slot, absent, present}
use Rattle.xt_outside.specs.declared.octets.Failed.{Failed}
use Rattle.xcdr_model.specs.FixedSpelling.{Fixed, nothing, number_fixed, then_fixed, headed_fixed, slot_fixed, piece_fixed, if_present_fixed, if_selected_fixed}
use Rattle.xcdr_model.specs.Numbers.{octets}
use Rattle.xt_wire.specs.writer.Written.{Written}
use Rattle.xt_wire.specs.writer.Writing.{IsAt, Keeps, Put, Puts, PutsWithin}
use Rattle.xt_wire.proofs.OfWriter.Puts.{Going, begins, goes_on, last, fails, ends, left_as, within, puts_nothing}
use Rattle.value_writer.specs.Places.{end_of}
use Rattle.xcdr_writer.specs.Parts.{most_of, case_of, presence_fixed}
use Rattle.xcdr_writer.proofs.SizeSteps.{padding_zero}
use Rattle.xcdr_writer.proofs.Steady.{Steady}
use Rattle.xcdr_writer.proofs.Counts.{headed_begins}

-- the later part was written by a call that names the order of the writer as it then stands
pub same_order : {T : Type 0} {r : Result T Failed} (F : Order → Fixed) {b c : Written} (o : Order) → b.order ≡ o → PutsWithin 4294967296 (F b.order) b c r → PutsWithin 4294967296 (F o) b c r
same_order {r = r} F {b} {c} o e w = subst (λ (k : Order). PutsWithin 4294967296 (F k) b c r) e w

-- the same of a call that may write any number of octets
pub in_order : {T : Type 0} {x : Result T Failed} (F : Order → Fixed) {a b c : Written} → Keeps a b → Puts (F b.order) b c x → Puts (F a.order) b c x
in_order {x = x} F {a} {b} {c} k w = subst (λ (o : Order). Puts (F o) b c x) k.order w

pub put_as : {T : Type 0} {r : Result T Failed} (f g : Fixed) {a b : Written} → f ≡ g → PutsWithin 4294967296 g a b r → PutsWithin 4294967296 f a b r
put_as {r = r} f g {a} {b} e w = subst (λ (k : Fixed). PutsWithin 4294967296 k a b r) (sym e) w

pub two : {T S : Type 0} {t : T} {r : Result S Failed} (f h : Fixed) (G : Order → Fixed) {a b c : Written} → ((p : ℕ) → f p ≡ then_fixed h (G a.order) p) → PutsWithin 4294967296 h a b (Ok t) → PutsWithin 4294967296 (G b.order) b c r → PutsWithin 4294967296 f a c r
two f h G {a} {b} {c} e w v = last (G a.order) (goes_on h (G a.order) (begins 4294967296 f (then_fixed h (G a.order)) a e) w) (same_order G a.order w.keeps.order v)

pub first_fails : {T S : Type 0} {x : Failed} (f h g : Fixed) {a b : Written} → ((p : ℕ) → f p ≡ then_fixed h g p) → PutsWithin {T = T} 4294967296 h a b (Err x) → PutsWithin {T = S} 4294967296 f a b (Err x)
first_fails f h g {a} {b} e w = fails h g (begins 4294967296 f (then_fixed h g) a e) w

pub headed_two : {T S : Type 0} {t : T} {x : Result S Failed} (r : Rep) (F : Order → Fixed) (g : Fixed) (n : ℕ) {a b c : Written} → most_of r ≡ 4 → Steady r (F a.order) g → n ≡ end_of g 0 → PutsWithin 4294967296 (number_fixed 4 a.order 4 n) a b (Ok t) → PutsWithin 4294967296 (F b.order) b c x → PutsWithin 4294967296 (headed_fixed a.order (F a.order)) a c x
headed_two r F g n {a} {b} {c} four s e w v = last (F a.order) (headed_begins r a.order (F a.order) g n four s e w) (same_order F a.order w.keeps.order v)

pub onward : {T : Type 0} {t : T} (f h k : Fixed) (H : Order → Fixed) {a b c : Written} → Going 4294967296 f h a b → h ≡ then_fixed (H a.order) k → PutsWithin 4294967296 (H b.order) b c (Ok t) → Going 4294967296 f k a c
onward f h k H {a} {b} {c} u e w = goes_on (H a.order) k (left_as h (then_fixed (H a.order) k) (λ p. ap (λ (x : Fixed). x p) e) u) (same_order H a.order u.keeps.order w)

pub onward_fails : {T S : Type 0} {x : Failed} (f h k : Fixed) (H : Order → Fixed) {a b c : Written} → Going 4294967296 f h a b → h ≡ then_fixed (H a.order) k → PutsWithin {T = T} 4294967296 (H b.order) b c (Err x) → PutsWithin {T = S} 4294967296 f a c (Err x)
onward_fails f h k H {a} {b} {c} u e w = fails (H a.order) k (left_as h (then_fixed (H a.order) k) (λ p. ap (λ (x : Fixed). x p) e) u) (same_order H a.order u.keeps.order w)

pub all_done : {T : Type 0} {t : T} (f h : Fixed) {a b : Written} → Going 4294967296 f h a b → h ≡ nothing → PutsWithin 4294967296 f a b (Ok t)
all_done f h u e = ends (left_as h nothing (λ p. ap (λ (x : Fixed). x p) e) u)

pub none_put : {T : Type 0} {t : T} (a : Written) → PutsWithin 4294967296 nothing a a (Ok t)
none_put a = within (puts_nothing a)

-- ---- spellings in parts

pub number_none : (r : Rep) (o : Order) (n p : ℕ) → number_fixed (most_of r) o 0 n p ≡ []
unfolding number_fixed octets
number_none Xcdr1 Little n p = ap (λ (k : ℕ). replicate k 0 ++ []) (padding_zero p)
number_none Xcdr1 Big n p = ap (λ (k : ℕ). replicate k 0 ++ []) (padding_zero p)
number_none Xcdr2 Little n p = ap (λ (k : ℕ). replicate k 0 ++ []) (padding_zero p)
number_none Xcdr2 Big n p = ap (λ (k : ℕ). replicate k 0 ++ []) (padding_zero p)

then_nothing : (f : Fixed) (p : ℕ) → f p ≡ then_fixed nothing f p
unfolding then_fixed
then_nothing f p = ap f (omega arith)

nothing_more : (f : Fixed) (p : ℕ) → f p ≡ then_fixed f nothing p
unfolding then_fixed
nothing_more f p = sym (append-nil (f p))

abbrev pub is_there : Slot → Bool
is_there absent = false
is_there (present w) = true

-- an optional member: the octet, and then the member
pub slot_parts : (opt : Bool) (o : Order) (f : Val → Fixed) (s : Slot) (there : Bool) → there ≡ is_there s → (p : ℕ) → slot_fixed opt o f s p ≡ then_fixed (presence_fixed o opt there) (if_present_fixed s f) p
slot_parts false o f absent there e p = then_nothing nothing p
slot_parts false o f (present w) there e p = then_nothing (f w) p
slot_parts true o f absent there e p = nothing_more (number_fixed 4 o 1 0) p ∙ ap (λ (b : Bool). then_fixed (presence_fixed o true b) nothing p) (sym e)
slot_parts true o f (present w) there e p = ap (λ (b : Bool). then_fixed (presence_fixed o true b) (f w) p) (sym e)

pub selected_put : {T : Type 0} {x : Result T Failed} (r : Rep) (o : Order) (cs : Cases) (d : ℤ) (s : Slot) (i : ℕ) {a b : Written} → select cs d ≡ Some i → PutsWithin 4294967296 (case_of r o cs i s) a b x → PutsWithin 4294967296 (if_selected_fixed (select cs d) (λ j. case_of r o cs j s)) a b x
selected_put {x = x} r o cs d s i {a} {b} e w = subst (λ (k : Option ℕ). PutsWithin 4294967296 (if_selected_fixed k (λ j. case_of r o cs j s)) a b x) (sym e) w

pub none_selected : {T : Type 0} {t : T} (r : Rep) (o : Order) (cs : Cases) (d : ℤ) (s : Slot) (a : Written) → select cs d ≡ None → PutsWithin 4294967296 (if_selected_fixed (select cs d) (λ j. case_of r o cs j s)) a a (Ok t)
none_selected {t = t} r o cs d s a e = subst (λ (k : Option ℕ). PutsWithin 4294967296 (if_selected_fixed k (λ j. case_of r o cs j s)) a a (Ok t)) (sym e) (none_put a)

pub there_is : {A : Type 0} (f : A → Val) (x : Option A) → is_some x ≡ is_there (slot_of (option_map f x))
there_is f None = refl
there_is f (Some x) = refl

pub no_piece : (o : Order) (h : Head) (code : ℕ) (f : Val → Fixed) (p : ℕ) → piece_fixed o h code f absent p ≡ nothing p
unfolding piece_fixed
no_piece o h code f p = refl

-- ---- contents with an origin of their own

at_origin : (a b : Written) (p : ℕ) → IsAt a p → b ≡ record a { origin = a.place } → IsAt b 0
unfolding IsAt
at_origin a b p at e = rw e (omega (arith, at))

-- from its own origin a content is written as from the first place, wherever it stands
pub put_apart : {T : Type 0} {x : Result T Failed} (f : Fixed) {a b c d : Written} → b ≡ record a { origin = a.place } → PutsWithin 4294967296 f b c x → d ≡ record c { origin = a.origin } → PutsWithin 4294967296 (λ p. f 0) a d x
put_apart {x = x} f {a} {b} {c} {d} e w g = record {
  keeps = record {
    order = ap (λ (k : Written). k.order) g ∙ w.keeps.order ∙ ap (λ (k : Written). k.order) e;
    origin = ap (λ (k : Written). k.origin) g;
    name = ap (λ (k : Written). k.name) g ∙ w.keeps.name ∙ ap (λ (k : Written). k.name) e;
    faults = omega (arith, ap (λ (k : Written). k.faults) g, w.keeps.faults, ap (λ (k : Written). k.faults) e);
  };
  put = λ p at fits. moved x (f 0) a b c d e g (w.put 0 (at_origin a b p at e) fits);
}
  where
    moved : {T : Type 0} (x : Result T Failed) (xs : List ℕ) (a b c d : Written) → b ≡ record a { origin = a.place } → d ≡ record c { origin = a.origin } → Put b c xs x → Put a d xs x
    moved (Ok t) xs a b c d e g part = let q = rw e at part in rw g (record { place = q.place; taken = q.taken })
    moved (Err y) xs a b c d e g part = let q = rw e at part in rw g (record { taken = q.taken; rose = q.rose })
