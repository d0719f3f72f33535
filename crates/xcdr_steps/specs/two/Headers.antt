-- The headers of a mutable structure's members, one at a time (DDS-XTypes 1.3, 7.4.3.4).
use Rattle.std.specs.Prelude.{ℕ, ◌+◌, ◌-◌, ◌*◌, ◌/◌, ◌%◌, ◌^◌, cond, nat_lt, ◌==◌, Ok, length, take}
use Rattle.xt_shapes.specs.declared.leaves.Order.{Order}
use Rattle.xcdr_model.specs.declared.malformed.Why.TheVariants.{Short, MemberId, MemberSize}
use Rattle.xcdr_model.specs.Numbers.{number}
use Rattle.xcdr_model.specs.Reading.{Spot, Reading, fault_at, ◌>>=◌, number_at}
use Rattle.xcdr_model.specs.Xcdr2Reading.{content_at, ends, holder}
use Rattle.xcdr_steps.specs.reading.Headings.{Told, Next, ended, told}

-- how many octets a content has whose first number is its count, under the length codes 5 to 7
abbrev pub counted_content : ℕ → ℕ → ℕ
counted_content code n = 4 + n * cond (code == 5) 1 (cond (code == 6) 4 8)

-- the next four octets as a number, before which the place stays
abbrev pub peeked_at : Order → Spot → Reading ℕ
peeked_at o s = cond (nat_lt (length s.rest) 4) (fault_at s.at Short) (Ok (number o (take 4 s.rest), s))

-- how many octets a content has, where the place after the header is aligned
abbrev pub length_at : ℕ → Order → Spot → Reading ℕ
length_at code o s = cond (nat_lt code 4) (Ok (2 ^ code, s)) (cond (code == 4) (number_at 4 o 4 s) (peeked_at o s >>= λ n. Ok (counted_content code n.0, n.1)))

abbrev pub told_of : ℕ × ℕ → ℕ → Told
told_of v size = record { at = v.0; id = v.1 % 2 ^ 28; must = v.1 / 2 ^ 31 == 1; size = size }

-- a header whose word and length were read
abbrev pub checked_header : ℕ × ℕ → ℕ → Order → Spot → Reading Told
checked_header v size o s = cond (v.1 % 2 ^ 28 == 2 ^ 28 - 1) (fault_at v.0 MemberId) (cond (nat_lt (length s.rest) size) (fault_at v.0 MemberSize) (Ok (told_of v size, s)))

abbrev pub header_at : Order → Spot → Reading Told
header_at o s = number_at 4 o 4 s >>= λ h. content_at o (h.0 / 2 ^ 28 % 8) h.1 >>= λ n. checked_header (holder 4 4 s, h.0) n.0 o n.1

-- what comes next: a header, or the end where the region ends before it
abbrev pub next_at : Order → Spot → Reading Next
next_at o s = cond (ends s) (Ok (ended, s)) (header_at o s >>= λ h. Ok (told h.0, h.1))
