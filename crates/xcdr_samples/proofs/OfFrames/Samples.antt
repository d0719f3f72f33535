-- A sample that was begun and ended, and the sample's definition.
use Rattle.std.proofs.Common.{◌≡◌, refl, ap, ◌∙◌, ℕ, ◌+◌, ◌-◌, ◌*◌, ◌/◌, ◌%◌, ◌≤◌, true, false, Bool, Some, None, List, [], ◌∷◌, length, take, cond, nat_lt, ◌==◌, Result, Ok, Err, arith}
use Rattle.std.proofs.lemmas.List.{drop_all}
use Rattle.std.proofs.lemmas.Bool.{le-ltb}
use Rattle.xt_shapes.specs.declared.leaves.Ext.{Ext}
use Rattle.xt_shapes.specs.declared.leaves.Order.{Order}
use Rattle.xt_shapes.specs.declared.leaves.Rep.{Rep}
use Rattle.xt_shapes.specs.Shape.{Shape}
use Rattle.xcdr_model.specs.declared.malformed.Fault.{Fault}
use Rattle.xcdr_model.specs.declared.malformed.Why.TheVariants as why
use Rattle.xcdr_model.specs.Reading.{Spot, Reading, fault_at, ◌>>=◌, step, octets_at}
use Rattle.xcdr_model.specs.Samples.{Outcome, row_of, order_of, top_ext, body_outcome, past_head, read_sample}
use Rattle.xt_wire.specs.declared.cursor.faults.DecodeFault.{DecodeFault}
use Rattle.xt_wire.specs.cursor.Standing.{Standing, Stands, Within}
use Rattle.xt_wire.specs.cursor.Decoding.{Decodes}
use Rattle.xt_wire.proofs.OfCursor.Ahead.{Ahead, begins, goes_on, fails, last}
use Rattle.xcdr_samples.specs.declared.frames.frames.OpenSample.{OpenSample}
use Rattle.xcdr_samples.specs.frames.Heads.{Told, head_view, head_told, head_in, head_at}
use Rattle.xcdr_samples.specs.frames.Frames.{over_region, whole_body, body_at, sample_at, Begun, Unbegun, MayEnd, Ended, Ends}
use Rattle.xcdr_samples.proofs.OfFrames.Bodies.{body_fails, body_ends, body_unended}

-- ---- by a cursor

abbrev behind : {A : Type 0} → (Order → Spot → Reading A) → Told → Order → Spot → Reading A
behind f h o s = body_at f h s

starts : {A : Type 0} (r : Rep) (e : Ext) (f : Order → Spot → Reading A) (a : Standing) → Ahead (sample_at r e f) (λ o s. head_at r e o s >>= λ h. behind f h.0 o h.1) a a
starts r e f a = begins (sample_at r e f) _ a (λ s. refl)

headed : {A : Type 0} (r : Rep) (e : Ext) (f : Order → Spot → Reading A) {a b : Standing} {x : OpenSample} (g : Begun r e a b x) → Ahead (sample_at r e f) (behind f (head_view g.head)) a g.middle
headed r e f {a} g = goes_on head_view (head_at r e) (behind f) (starts r e f a) g.read

-- the head was not read
pub sample_unbegun : {S A : Type 0} (wanted : S → A) (r : Rep) (e : Ext) (f : Order → Spot → Reading A) {a b : Standing} {d : DecodeFault} → Unbegun r e a b d → Decodes wanted (sample_at r e f) a b (Err d)
sample_unbegun wanted r e f {a} u = fails head_view wanted (head_at r e) (behind f) (starts r e f a) u

-- the value was not read
pub sample_fails : {T S A : Type 0} (view : T → A) (wanted : S → A) (r : Rep) (e : Ext) (f : Order → Spot → Reading A) {a b c : Standing} {x : OpenSample} {d : DecodeFault} → Begun r e a b x → Decodes view f b c (Err d) → Decodes wanted (sample_at r e f) a c (Err d)
sample_fails view wanted r e f {b = b} {c = c} {x = x} {d = d} g u = last wanted (behind f (head_view g.head)) (headed r e f g) (body_fails view wanted f (head_view g.head) g.middle b c x d g.stands g.entered u)

-- the value is all of the body
pub sample_ends : {T A : Type 0} (view : T → A) (r : Rep) (e : Ext) (f : Order → Spot → Reading A) {a b c d : Standing} {x : OpenSample} {t : T} → Stands c → Begun r e a b x → Decodes view f b c (Ok t) → Ended x c d → Decodes view (sample_at r e f) a d (Ok t)
sample_ends view r e f {b = b} {c = c} {d = d} {x = x} {t = t} st g u l = last view (behind f (head_view g.head)) (headed r e f g) (body_ends view f (head_view g.head) g.middle b c d x t g.stands st g.entered u l)

-- octets are left of the body, or the device failed
pub sample_unended : {T A : Type 0} (view : T → A) (r : Rep) (e : Ext) (f : Order → Spot → Reading A) {a b c d : Standing} {x : OpenSample} {t : T} {k : DecodeFault} → Stands c → Begun r e a b x → Decodes view f b c (Ok t) → Ends x c d (Err k) → Decodes view (sample_at r e f) a d (Err k)
sample_unended view r e f {b = b} {c = c} {d = d} {x = x} {t = t} {k = k} st g u l = last view (behind f (head_view g.head)) (headed r e f g) (body_unended view f (head_view g.head) g.middle b c d x t k g.stands st g.entered u l)

pub may_end : {r : Rep} {e : Ext} {a b c : Standing} {x : OpenSample} → Stands b → Begun r e a b x → Within b c → b.place ≤ c.place → MayEnd x c
may_end st g w later =
    let en = g.entered in
    let m = g.stands in record {
      padding = omega (arith, w.region_end, en.region_end, en.padding, en.outer);
      within = omega (arith, en.outer, m.in_whole, en.along.whole, w.along.whole);
      origin = omega (arith, en.old_origin, m.from_origin, en.place, later);
    }

-- a sample that was read took all of its region
pub sample_end : {r : Rep} {e : Ext} {a b c d : Standing} {x : OpenSample} → Begun r e a b x → Ended x c d → d.place ≡ a.region_end
sample_end g l = l.place ∙ g.entered.outer ∙ g.read.within.region_end

-- ---- by its definition

over_past : {A : Type 0} (at : ℕ) (xs ys : List ℕ) (q : Result A Fault) → length xs ≡ 4 + length ys → over_region (record { at = at; rest = xs }) (past_head q) ≡ over_region (record { at = at + 4; rest = ys }) q
unfolding step
over_past at xs ys (Ok x) e =
    let place : at + length xs ≡ at + 4 + length ys = omega (arith, e) in
    rw (place, drop_all (length xs) xs (omega arith), drop_all (length ys) ys (omega arith)) refl
over_past at xs ys (Err f) e = ap (λ (k : ℕ). Err (record { at = k; why = f.why })) (omega arith)

abbrev fault_in : {A : Type 0} → ℕ → Reading A
fault_in at = fault_at at why.Encapsulation

-- the identifier is another: malformed at its first octet
none_there : {A : Type 0} (at : ℕ) → fault_in {A = A} (at + 0) ≡ fault_in at
none_there {A} at = ap (λ (k : ℕ). fault_in {A = A} k) (omega arith)

-- the head of four octets and more
long_head : (r : Rep) (e : Ext) (o : Order) (at a b c d : ℕ) (body : List ℕ) → head_at r e o (record { at = at; rest = a ∷ b ∷ c ∷ d ∷ body }) ≡ head_in at (head_told r e (a ∷ b ∷ c ∷ d ∷ [])) (record { at = at + 4; rest = body })
unfolding octets_at step ◌>>=◌
long_head r e o at a b c d body =
    let long : nat_lt (length (a ∷ b ∷ c ∷ d ∷ body)) 4 ≡ false = le-ltb _ _ (omega arith) in
    rw long refl

abbrev head_tested : ℕ → Bool → Told → List ℕ → Reading Told
head_tested at j h body = cond j (fault_at (at + 2) why.Encapsulation) (Ok (h, record { at = at + 4; rest = body }))

-- by the test of the padding
padding_case : {A : Type 0} (f : Order → Spot → Reading A) (j : Bool) (h : Told) (at : ℕ) (xs body : List ℕ) → length xs ≡ 4 + length body → over_region (record { at = at; rest = xs }) (cond j (fault_at 2 why.Encapsulation) (past_head (whole_body f h.0 (take (length body - h.1) body)))) ≡ (head_tested at j h body >>= λ x. body_at f x.0 x.1)
unfolding ◌>>=◌
padding_case f true h at xs body e = refl
padding_case f false h at xs body e = over_past at xs body (whole_body f h.0 (take (length body - h.1) body)) e

-- by the test of the identifier
head_case : {A : Type 0} (f : Order → Spot → Reading A) (k : Bool) (h : Told) (at : ℕ) (xs body : List ℕ) → length xs ≡ 4 + length body → over_region (record { at = at; rest = xs }) (cond k (cond (nat_lt (length body) h.1) (fault_at 2 why.Encapsulation) (past_head (whole_body f h.0 (take (length body - h.1) body)))) (fault_at 0 why.Encapsulation)) ≡ (head_in at (cond k (Some h) None) (record { at = at + 4; rest = body }) >>= λ x. body_at f x.0 x.1)
unfolding ◌>>=◌
head_case f true h at xs body e = padding_case f (nat_lt (length body) h.1) h at xs body e
head_case {A} f false h at xs body e = none_there {A = A} at

-- A sample's reading is that of its head and body, where f reads the value of a body.
pub sample_is : (r : Rep) (t : Shape) (f : Order → Spot → Reading Outcome) → ((o : Order) (b : List ℕ) → body_outcome r o t b ≡ whole_body f o b) → (o : Order) (at : ℕ) (xs : List ℕ) → over_region (record { at = at; rest = xs }) (read_sample r t xs) ≡ sample_at r (top_ext t) f o (record { at = at; rest = xs })
unfolding read_sample ◌>>=◌
sample_is r t f same o at [] = none_there at
sample_is r t f same o at (a ∷ []) = none_there at
sample_is r t f same o at (a ∷ b ∷ []) = none_there at
sample_is r t f same o at (a ∷ b ∷ c ∷ []) = none_there at
sample_is r t f same o at (a ∷ b ∷ c ∷ d ∷ body) =
    let h : Told = (order_of ((256 * a + b) % 2), d % 4) in
    rw (same h.0 (take (length body - h.1) body), long_head r (top_ext t) o at a b c d body)
    (head_case f ((256 * a + b) / 2 == row_of r (top_ext t)) h at (a ∷ b ∷ c ∷ d ∷ body) body (omega arith))
