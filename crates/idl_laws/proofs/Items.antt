-- Items of a text, one after another.
use Rattle.std.proofs.Common.{◌≡◌, ℕ, suc, ◌+◌, ◌≤◌, ◌<◌, false, length, refl, ap, ◌∙◌, arith}
use Rattle.idl_tokens.specs.Classes.{Text}
use Rattle.idl_tokens.specs.Tokens.{skip}
use Rattle.idl_tokens.specs.declared.tokens.TokenKind.{TokenKind}
use Rattle.idl_types.specs.State.{State}
use Rattle.xt_idl.specs.Whole.{item, items_from, is_end, at_end}
use Rattle.idl_laws.proofs.Fronts.{Front}
use Rattle.idl_laws.proofs.Steps.{at, Reads, kind_is}

-- From one state and text the items lead to another, whatever follows.
pub record Runs (s : State) (text : Text) (new : State) (rest : Text) : Type 0 where
  pub turns : ℕ
  pub enough : turns + length (skip rest) ≤ length (skip text)
  pub runs : (m n size : ℕ) → m ≡ turns + n → items_from m s (at text size) ≡ items_from n new (at rest size)

pub runs_none : (s : State) (text : Text) → Runs s text s text
runs_none s text = record { turns = 0; enough = omega arith; runs = λ m n size e. let same : m ≡ n = omega arith in ap (λ k. items_from k s (at text size)) same }

pub runs_on : {s t u : State} {a b c : Text} → Runs s a t b → Runs t b u c → Runs s a u c
runs_on first second = record {
  turns = first.turns + second.turns;
  enough = omega (arith, first.enough, second.enough);
  runs = λ m n size e. first.runs m (second.turns + n) size (omega arith) ∙ second.runs (second.turns + n) n size refl;
}

item_step : (s new : State) {k : TokenKind} {w text more rest : Text} → Front k w text more → is_end k ≡ false → Reads (item s) text new rest → (n size : ℕ) → items_from (suc n) s (at text size) ≡ items_from n new (at rest size)
unfolding items_from at_end
item_step s new f more reads n size = rw (kind_is f size, more, reads size) refl

pub runs_item : {s new : State} {k : TokenKind} {w text more rest : Text} → Front k w text more → is_end k ≡ false → length (skip rest) < length (skip text) → Reads (item s) text new rest → Runs s text new rest
runs_item {s} {new} {k} {w} {text} {more} {rest} first no_end shorter reads = record {
  turns = 1;
  enough = omega (arith, shorter);
  runs = λ m n size e. let one : m ≡ suc n = omega arith in ap (λ j. items_from j s (at text size)) one ∙ item_step s new first no_end reads n size;
}
