-- What the worked examples share: types and values in few words, and lists of what their computations open (this profile's own).
use Rattle.std.specs.Prelude.{◌≡◌, ℕ, ℤ, pos, List, [], Bool, true, false, map, Ok, Err}
use Rattle.xt_shapes.specs.declared.leaves.Primitive.TheVariants as prims
use Rattle.xt_shapes.specs.declared.leaves.Rep.{Rep}
use Rattle.xt_shapes.specs.declared.leaves.Try.{Try}
use Rattle.xt_shapes.specs.declared.leaves.Try.TheVariants.{Discard}
use Rattle.xt_shapes.specs.Shape.{Literal, Flag, Shape, prim, Members, member, Cases, one_case}
use Rattle.xt_shapes.specs.Vals.{Val, int, struct_of, Slot, present, slots_of}
use Rattle.xcdr_model.specs.declared.malformed.Why.{Why}
use Rattle.xcdr_model.specs.Numbers.{octets, number, with_sign, raw, padding}
use Rattle.xcdr_model.specs.Reading.{◌>>=◌, step, number_at, octets_at, passing, filling, dheader, each_at}
use Rattle.xcdr_model.specs.Xcdr2Reading.{scalar_at, text_at, collection_at, counted_at, piece_at, pieces_at, contents, optional_at, read, read_body}
use Rattle.xcdr_model.specs.Xcdr1Reading.{block_at, mark_at, sized_at, content_read, params_at, optional1_at, read1, read_body1}
use Rattle.xcdr_model.specs.FixedSpelling.{number_fixed, then_fixed, headed_fixed, piece_fixed, fixed, param_fixed, end_fixed, fixed1}
use Rattle.xcdr_model.specs.Samples.{Outcome, sample, read_sample}
use Rattle.xcdr_model.specs.Failure as failing

-- ---- types

abbrev pub long : Shape
long = prim prims.Int32

abbrev pub octet : Shape
octet = prim prims.Byte

-- a member with an id and a name's hash, and how it is settled
abbrev pub told : ℕ → ℕ → Try → Bool → Shape → Members → Members
told id hash tc key t ms = member (record { id = id; hash = hash; tc = tc; optional = false; must_understand = false; key = key }) t ms

-- members whose names differ where their ids do
abbrev pub plain : ℕ → Shape → Members → Members
plain id t ms = told id id Discard false t ms

abbrev pub tried : Try → ℕ → Shape → Members → Members
tried tc id t ms = told id id tc false t ms

abbrev pub keyed : ℕ → Shape → Members → Members
keyed id t ms = told id id Discard true t ms

abbrev pub optional : ℕ → Shape → Members → Members
optional id t ms = member (record { id = id; hash = id; tc = Discard; optional = true; must_understand = false; key = false }) t ms

-- must be understood, and may be absent or not
abbrev pub must : Bool → ℕ → Shape → Members → Members
must may_lack id t ms = member (record { id = id; hash = id; tc = Discard; optional = may_lack; must_understand = true; key = false }) t ms

abbrev pub case_of : ℕ → List ℤ → Shape → Cases → Cases
case_of id labels t cs = one_case (record { id = id; hash = id; tc = Discard; labels = labels; is_default = false }) t cs

abbrev pub otherwise_case : ℕ → Shape → Cases → Cases
otherwise_case id t cs = one_case (record { id = id; hash = id; tc = Discard; labels = []; is_default = true }) t cs

-- literals and flags with the values and positions 0, 1, ..
abbrev pub literal : ℕ → Literal
literal n = record { hash = n; value = pos n; is_default = false }

abbrev pub flag : ℕ → Flag
flag n = record { hash = n; position = n }

-- ---- values

abbrev pub whole : ℕ → Val
whole n = int (pos n)

-- a structure without absent members
abbrev pub values : List Val → Val
values vs = struct_of (slots_of (map present vs))

abbrev pub slots : List Slot → Val
slots ss = struct_of (slots_of ss)

-- ---- statements

abbrev pub reads : Rep → Shape → List ℕ → Val → Type 0
reads r t s v = read_sample r t s ≡ Ok (sample v)

abbrev pub gives : Rep → Shape → List ℕ → Outcome → Type 0
gives r t s x = read_sample r t s ≡ Ok x

abbrev pub malformed : Rep → Shape → List ℕ → ℕ → Why → Type 0
malformed r t s at why = read_sample r t s ≡ Err (record { at = at; why = why })

-- ---- what computations open

unfoldable pub readings : ℕ
unfolding octets number with_sign padding ◌>>=◌ step number_at octets_at passing filling dheader each_at scalar_at text_at collection_at counted_at piece_at pieces_at contents optional_at read read_body read_sample
readings = 0

unfoldable pub readings1 : ℕ
unfolding readings block_at mark_at sized_at content_read params_at optional1_at read1 read_body1
readings1 = 0

unfoldable pub spellings : ℕ
unfolding octets padding raw number_fixed then_fixed headed_fixed piece_fixed fixed param_fixed end_fixed fixed1
spellings = 0

unfoldable pub verdicts : ℕ
unfolding failing.rule failing.and_then failing.step failing.of_kind failing.if_some failing.first_of failing.strong failing.key_failure failing.structure_rules failing.case_pair failing.failure
verdicts = 0
