use Rattle.std.proofs.Common.{rules, refl}
use Rattle.std.proofs.lemmas.List.{drop-drop}
use Rattle.xt_wire.proofs.cursor.slice.SliceCursorCursor.align.Goals as goal

pub returns : goal.returns
returns c = rw (← c.min.ensures, ← c.padding-pad.ensures.octets) (record {
  within = search rules;
  fits = c.if-self-pad.false;
  place = refl;
  ahead = search (rules, drop-drop);
})
