-- What a `Tokens` shows, and what it keeps ready (this profile's own).
use Rattle.std.specs.Prelude.{◌≡◌, ◌≤◌, length}
use Rattle.idl_tokens.specs.Tokens.{token, skip}
use Rattle.idl_input.specs.declared.tokens.Tokens.TheInside.{Inside}
use Rattle.idl_input.specs.Input.{Input}

abbrev pub input_of : Inside → Input
input_of t = record { text = t.text.now; size = t.size }

abbrev pub IsReady : Inside → Type 0
IsReady t =
    (t.ahead.now ≡ skip t.text.now) × (t.token ≡ token t.ahead.now) × (t.token.len ≤ length t.ahead.now) × (length t.ahead.now ≤ length t.text.now) × (length t.text.now ≤ t.size) × (t.size ≤ 1048576)
