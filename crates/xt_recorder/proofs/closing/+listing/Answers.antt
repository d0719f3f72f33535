use Rattle.std.proofs.Common.{◌≡◌, sym, ◌∙◌, true, false}
use Rattle.type_object.specs.References.{is_among}
use Rattle.type_object.proofs.Noted.{note_is}
use Rattle.xt_recorder.proofs.Listing.{among_is, none_listed, there_already, listed_behind}
use Rattle.xt_recorder.proofs.closing.+listing.Goals as goal

pub list-returns-then-levels-eq0 : goal.list-returns-then-levels-eq0
list-returns-then-levels-eq0 t c = none_listed c.args.levels c.args.pool.now c.args.listed.now.keys c.args.id.now c.if-levels-eq0.true

pub list-returns-then-contains : goal.list-returns-then-contains
list-returns-then-contains t c =
    let keys = c.args.listed.now.keys in
    let among : is_among c.args.id.now keys ≡ true = sym (among_is c.args.id.now keys) ∙ sym c.contains.ensures ∙ c.if-contains.true in
    there_already c.args.levels c.args.pool.now keys c.args.id.now c.if-levels-eq0.false among

pub list-returns : goal.list-returns
list-returns t c =
    let keys = c.args.listed.now.keys in
    let among : is_among c.args.id.now keys ≡ false = sym (among_is c.args.id.now keys) ∙ sym c.contains.ensures ∙ c.if-contains.false in
    c.in_ok-insert.ensures.keys ∙ note_is c.args.id.now c.list_referred.new.listed.keys ∙ listed_behind c.args.levels c.args.pool.now keys c.list_referred.new.listed.keys c.args.id.now c.if-levels-eq0.false among c.in_ok-list_referred.ensures
