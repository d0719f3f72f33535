-- What is read of a number and of a text.
use Rattle.std.proofs.Common.{◌≡◌, refl, sym, ap, ◌∙◌, ℕ, zero, suc, ◌-◌, ◌^◌, ◌≤◌, ℤ, pos, Bool, true, false, cond, ◌&&◌, ◌||◌, ◌==◌, List, [], ◌∷◌, length, take, drop, nat_lt, nat_le, Ok}
use Rattle.std.proofs.lemmas.Bool.{le-ltb, ltb-true, lt-leb}
use Rattle.xt_shapes.specs.declared.leaves.Ext.{Ext}
use Rattle.xt_shapes.specs.declared.leaves.Order.{Order}
use Rattle.xt_shapes.specs.declared.leaves.Primitive.{Primitive}
use Rattle.xt_shapes.specs.declared.leaves.Rep.{Rep}
use Rattle.xt_shapes.specs.declared.leaves.Rep.TheVariants.{Xcdr1, Xcdr2}
use Rattle.xt_shapes.specs.Lists.{has}
use Rattle.xt_shapes.specs.Select.{is_literal}
use Rattle.xt_shapes.specs.Shape.{Literal, Flag, prim, str, enumeration, bitmask}
use Rattle.xt_shapes.specs.Sizes.{size, is_signed, is_boolean, enum_size, mask_size}
use Rattle.xt_shapes.specs.Typing.{is_past, is_below}
use Rattle.xt_shapes.specs.Vals.{Val, int, text}
use Rattle.xcdr_model.specs.Numbers.{with_sign}
use Rattle.xcdr_model.specs.Projection.{Built, got, failed, gather_text}
use Rattle.xcdr_model.specs.Reading.{Spot, ◌>>=◌, number_at, octets_at}
use Rattle.xcdr_model.specs.Xcdr1Reading.{read1}
use Rattle.xcdr_model.specs.Xcdr2Reading.{read, done, scalar_at, present_at, text_at}
use Rattle.shape_laws.proofs.Self.{kept_all}
use Rattle.packed_reader.specs.Reads.{read_in, most, Reads}
use Rattle.packed_reader.specs.Unions.{ReadsNumber}

-- what has no parts, in each representation
prim_read : (r : Rep) (o : Order) (p : Primitive) (s : Spot) → read_in r o (prim p) s ≡ done (λ i. (got (int i), false)) (scalar_at (most r) o (prim p) s)
unfolding read read1
prim_read Xcdr1 o p s = refl
prim_read Xcdr2 o p s = refl

text_read : (r : Rep) (o : Order) (bound : ℕ) (s : Spot) → read_in r o (str bound) s ≡ done (λ t. (gather_text bound t, false)) (text_at o s)
unfolding read read1
text_read Xcdr1 o bound s = refl
text_read Xcdr2 o bound s = refl

enum_read : (r : Rep) (o : Order) (e : Ext) (bits : ℕ) (ls : List Literal) (s : Spot) → read_in r o (enumeration e bits ls) s ≡ done (λ i. (cond (is_literal ls i) (got (int i)) failed, false)) (scalar_at (most r) o (enumeration e bits ls) s)
unfolding read read1
enum_read Xcdr1 o e bits ls s = refl
enum_read Xcdr2 o e bits ls s = refl

mask_read : (r : Rep) (o : Order) (bits : ℕ) (fs : List Flag) (s : Spot) → read_in r o (bitmask bits fs) s ≡ done (λ i. (got (int i), false)) (scalar_at (most r) o (bitmask bits fs) s)
unfolding read read1
mask_read Xcdr1 o bits fs s = refl
mask_read Xcdr2 o bits fs s = refl

-- the number of a primitive or of an enumeration, and the value that it is
pub prim_number_is : (r : Rep) (o : Order) (p : Primitive) (n : ℕ) (d : ℤ) (s s2 : Spot) → number_at (most r) o (size p) s ≡ Ok (n, s2) → (is_boolean p && nat_lt 1 n) ≡ false → d ≡ with_sign (size p) (is_signed p) n → ReadsNumber r o (prim p) s d s2
unfolding scalar_at ◌>>=◌
prim_number_is r o p n d s s2 e two is = record { number = rw (e, two, ← is) refl; built = refl }

pub prim_is : (r : Rep) (o : Order) (p : Primitive) (d : ℤ) (v : Val) (s s2 : Spot) → ReadsNumber r o (prim p) s d s2 → v ≡ int d → Reads r o (prim p) s v s2
unfolding ◌>>=◌
prim_is r o p d v s s2 read is = prim_read r o p s ∙ rw (read.number, is) refl

pub enum_number_is : (r : Rep) (o : Order) (e : Ext) (bits : ℕ) (ls : List Literal) (n : ℕ) (d : ℤ) (s s2 : Spot) → number_at (most r) o (enum_size bits) s ≡ Ok (n, s2) → d ≡ with_sign (enum_size bits) (enum_size bits == 4) n → is_literal ls d ≡ true → ReadsNumber r o (enumeration e bits ls) s d s2
unfolding scalar_at ◌>>=◌
enum_number_is r o e bits ls n d s s2 read is known = record { number = rw (read, ← is) refl; built = rw known refl }

pub enum_is : (r : Rep) (o : Order) (e : Ext) (bits : ℕ) (ls : List Literal) (d : ℤ) (v : Val) (s s2 : Spot) → ReadsNumber r o (enumeration e bits ls) s d s2 → v ≡ int d → Reads r o (enumeration e bits ls) s v s2
unfolding ◌>>=◌
enum_is r o e bits ls d v s s2 read is = enum_read r o e bits ls s ∙ rw (read.number, is) (ap (λ (x : Built). Ok ((x, false), s2)) read.built)

pub presence_is : (o : Order) (n : ℕ) (s s2 : Spot) → number_at 4 o 1 s ≡ Ok (n, s2) → n ≤ 1 → present_at o s ≡ Ok (n == 1, s2)
unfolding ◌>>=◌
presence_is o n s s2 e low = rw (e, le-ltb 1 n low) refl

within_bound : (bound : ℕ) (t : List ℕ) → is_past bound (length t) ≡ false → gather_text bound t ≡ got (text t)
within_bound bound t e = rw (e, kept_all bound t e) refl

-- a NUL at the end
later_has : (n : ℕ) (xs : List ℕ) → has (λ b. b == 0) (drop n xs) ≡ true → has (λ b. b == 0) xs ≡ true
later_has zero xs e = e
later_has (suc n) [] e = e
later_has (suc n) (x ∷ xs) e = rw (later_has n xs e) (or_true (x == 0))
  where
    or_true : (b : Bool) → (b || true) ≡ true
    or_true true = refl
    or_true false = refl

pub text_is : (r : Rep) (o : Order) (bound n : ℕ) (t end all : List ℕ) (s s2 s3 : Spot) → number_at 4 o 4 s ≡ Ok (n, s2) → (n == 0) ≡ false → octets_at n s2 ≡ Ok (all, s3) → t ≡ take (n - 1) all → end ≡ drop (n - 1) all → has (λ b. b == 0) t ≡ false → has (λ b. b == 0) end ≡ true → is_past bound (length t) ≡ false → Reads r o (str bound) s (text t) s3
unfolding text_at ◌>>=◌
text_is r o bound n t end all s s2 s3 e some f is last none ends within =
    let closed : has (λ b. b == 0) all ≡ true = later_has (n - 1) all (ap (has (λ b. b == 0)) (sym last) ∙ ends) in
    text_read r o bound s ∙ rw (e, some, f, ← is, none, closed, within_bound bound t within) refl

pub mask_is : (r : Rep) (o : Order) (bits : ℕ) (fs : List Flag) (n : ℕ) (s s2 : Spot) → number_at (most r) o (mask_size bits) s ≡ Ok (n, s2) → is_below (2 ^ bits) (pos n) ≡ true → Reads r o (bitmask bits fs) s (int (pos n)) s2
unfolding scalar_at ◌>>=◌
mask_is r o bits fs n s s2 e below =
    let low : nat_le (2 ^ bits) n ≡ false = lt-leb (2 ^ bits) n (ltb-true n (2 ^ bits) below) in
    mask_read r o bits fs s ∙ rw (e, low) refl
