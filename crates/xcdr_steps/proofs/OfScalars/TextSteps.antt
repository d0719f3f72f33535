-- Texts, told the place of their count.
use Rattle.std.proofs.Common.{◌≡◌, refl, ℕ, ◌-◌, List, ◌==◌, cond, Ok}
use Rattle.xt_shapes.specs.declared.leaves.Order.{Order}
use Rattle.xcdr_model.specs.declared.malformed.Why.TheVariants.{Str}
use Rattle.xcdr_model.specs.Reading.{Spot, Reading, fault_at, octets_at, ◌>>=◌}
use Rattle.xcdr_model.specs.Xcdr2Reading.{text_at, without_nul}
use Rattle.xt_wire.specs.cursor.Standing.{Standing}
use Rattle.xt_wire.specs.cursor.Steps.{placed_at}
use Rattle.xt_wire.proofs.OfCursor.Ahead.{Ahead, begins, placed_bind}
use Rattle.xcdr_steps.specs.scalars.Texts.{counted_text}

abbrev pub text_behind : ℕ × ℕ → Order → Spot → Reading (List ℕ)
text_behind v o s = cond (v.1 == 0) (fault_at v.0 Str) (counted_text v o s)

pub text_starts : (a : Standing) → Ahead text_at (λ o s. placed_at 4 4 o s >>= λ n. text_behind n.0 o n.1) a a
unfolding text_at
text_starts a = begins text_at _ a (λ s. placed_bind 4 4 a.order s _ text_behind (λ n. refl))

-- the octets of a text that were read
abbrev pub text_checked : ℕ × ℕ → List ℕ → Order → Spot → Reading (List ℕ)
text_checked v t o s = without_nul v.0 (v.1 - 1) t >>= λ u. Ok (u, s)

pub text_octets : (v : ℕ × ℕ) (n : ℕ) (a : Standing) → n ≡ v.1 → Ahead (counted_text v) (λ o s. octets_at n s >>= λ t. text_checked v t.0 o t.1) a a
text_octets v n a e = begins (counted_text v) _ a (λ s. rw e refl)
