use Rattle.std.proofs.Common.{◌≡◌, ◌+◌, ◌++◌, ◌∷◌, [], ap, ◌∙◌, arith, take, sym}
use Rattle.std.specs.Prelude.{Bool, true, false, ◌&&◌}
use Rattle.std.proofs.lemmas.List.{take_more}
use Rattle.object_formats.specs.Format.{each_good}
use Rattle.object_formats.proofs.Good.{each_none, each_more}
use Rattle.object_formats.proofs.well_formed.lists.each.Goals as goal
use Rattle.object_formats.proofs.well_formed.lists.each.Goals.{then-good, else-good}

pub loop-part-init : goal.loop-part-init
loop-part-init g c = sym (ap (each_good (g.P.Part.format c.args.form)) g.P.Part.none_seen ∙ each_none (g.P.Part.format c.args.form))

pub loop-part-preserved : goal.loop-part-preserved
loop-part-preserved g c =
    let xs = c.args.parts.now in
    let i = c.loop-part.part-index in
    let f = g.P.Part.format c.args.form in
    let x = c.part-item.result in
    let seen = g.P.Part.all_seen (take i xs) in
    let more : g.P.Part.all_seen (take (i + 1) xs) ≡ seen ++ g.P.Part.seen x ∷ [] = ap g.P.Part.all_seen (take_more xs i x (omega (arith, c.loop-part-test.true)) ∙ ap (λ y. take i xs ++ y ∷ []) (sym c.part-item.is)) ∙ g.P.Part.one_more (take i xs) x in
    let whole : each_good f (g.P.Part.all_seen (take (i + 1) xs)) ≡ (each_good f seen && f.good (g.P.Part.seen x)) = ap (each_good f) more ∙ each_more f seen (g.P.Part.seen x) in
    let so = λ (b : Bool) (e : c.loop-part.good ≡ b). sym (whole ∙ ap (λ y. y && f.good (g.P.Part.seen x)) (sym c.loop-part.invariant ∙ e)) in
    elim c.if-good.branch [ then-good w ↦ w.good-is ∙ w.is_good-good.ensures ∙ so true w.if-good.true | else-good w ↦ w.good-is ∙ w.if-good.false ∙ so false w.if-good.false ]
