use Rattle.std.proofs.Common.{rules, arith, List, Option, ap₂, [], ◌∷◌, ◌++◌, ◌||◌, ◌-◌, ◌+◌, subst, get_or, refl, sym, ap, ◌∙◌, ◌≡◌, ℕ, ℤ, Bool, true, false, not, cond, Ok, Some, None, Result}
use Rattle.std.specs.Option.{option_map}
use Rattle.std.proofs.lemmas.Result.{err_from_is_err_and}
use Rattle.xt_shapes.specs.declared.leaves.Order.{Order}
use Rattle.xt_shapes.specs.declared.leaves.Ext.TheVariants.{Final, Appendable, Mutable}
use Rattle.xt_shapes.specs.Defaults.{default_of}
use Rattle.xt_shapes.specs.Shape.{Head, CaseHead, Shape, Members, Cases}
use Rattle.xt_shapes.specs.Vals.{int, Slot as Body}
use Rattle.type_trees.specs.declared.types.Member.{Member}
use Rattle.type_trees.specs.declared.types.UnionType.{out-UnionType}
use Rattle.type_trees.specs.Bridge.{type_shape, members_shape, member_head, cases_shape, case_head}
use Rattle.type_trees.proofs.types.Case.TheLaws as case_laws
use Rattle.type_trees.proofs.types.Member.TheLaws as member_laws
use denote.Param.Weighed.{at_most}
use Rattle.xcdr_model.specs.declared.malformed.Why.TheVariants as why
use Rattle.xcdr_model.specs.Projection as model
use Rattle.xcdr_model.specs.Reading.{Spot, Reading, fault_at, number_at, filling}
use Rattle.xcdr_model.specs.Xcdr1Reading.{read1, is_open}
use Rattle.xcdr_model.specs.Xcdr2Reading.{read, scalar_at}
use Rattle.settled_parts.specs.Parts.{part_of}
use Rattle.try_construct.specs.Unions.{case_of}
use Rattle.try_construct.specs.Items as items
use Rattle.try_construct.specs.Items.{items_of, items_then, and_item}
use Rattle.try_construct.specs.Entries as entries
use Rattle.try_construct.specs.Entries.{entries_of, entries_then, and_entry}
use Rattle.try_construct.specs.Members.{slots_of, and_slot, structure_of}
use Rattle.xt_wire.specs.declared.cursor.faults.DecodeFault.{DecodeFault}
use Rattle.xt_wire.specs.cursor.Standing.{Standing}
use Rattle.xt_wire.specs.cursor.Decoding.{Decodes}
use Rattle.xt_wire.specs.cursor.Steps.{pass_at}
use Rattle.xt_wire.proofs.OfCursor.Ahead.{Ahead, begins, goes_on, fails, ends, last, read_fault, malformed}
use Rattle.xt_wire.proofs.OfCursor.Regions.{may_close, may_leave, filled_fails, filled_closes, content_stops}
use Rattle.xcdr_steps.specs.declared.reading.choices.Choice.{Choice}
use Rattle.xcdr_steps.specs.reading.Cases.{choice}
use Rattle.xcdr_steps.specs.reading.Counts.{counted}
use Rattle.xcdr_steps.specs.reading.Headings.{next_view}
use Rattle.xcdr_steps.proofs.OfAgain.Unheld.{stands_unheld, read_behind, unread_behind, unread_now, read_now}
use Rattle.xcdr_steps.proofs.OfOne.ContentSteps.{content_fails, content_ends, content_unended, content_unopened, may_close as may_close_content}
use Rattle.xcdr_reader.specs.declared.modes.Mode.{Mode}
use Rattle.xcdr_reader.specs.declared.modes.Mode.TheVariants.{Two}
use Rattle.xcdr_reader.specs.declared.comings.Coming.{Coming}
use Rattle.xcdr_reader.specs.declared.comings.Coming.TheVariants.{Absent, Here, Content}
use Rattle.xcdr_reader.specs.Modes.{content_in, inner, most, next_in, to_end}
use Rattle.xcdr_reader.specs.Comings.{coming_read}
use Rattle.xcdr_reader.specs.Insides.{members_read}
use Rattle.xcdr_reader.specs.Members.{Pieces, piece_of, has_come, next_piece, no_more}
use Rattle.xcdr_reader.specs.declared.known.Known.{Known}
use Rattle.xcdr_reader.specs.Parts.{items_read, slot_more, entry_at, case_in, body_read, whole_read}
use Rattle.xcdr_reader.proofs.CaseSteps.{chosen, of_item, union_made, union_behind, union_begin}
use Rattle.xcdr_reader.proofs.DecodeSteps.{part_next, part_none, value_at, items_behind, items_begin, items_counted, items_law, item_then, entries_behind, entries_begin, entries_counted, entry_then, value_then, entry_next, members_from, members_none, members_begin, more_next, more_behind, more_begin, more_absent, more_made, more_here, more_content}
use Rattle.xcdr_reader.proofs.GuideParts.{member_guided, case_guided}
use Rattle.xcdr_reader.proofs.InBlocks.{prim_is, items_given}
use Rattle.xcdr_reader.proofs.Indexed.{sound_case, sound_item}
use Rattle.xcdr_reader.proofs.InOrder.{slot_part}
use Rattle.xcdr_reader.proofs.KindSteps.{struct_inside, union_is_inside}
use Rattle.xcdr_reader.proofs.PartSteps.{unopened, inside_fails, closed, not_closed, rest_filled, own_whole}
use Rattle.xcdr_reader.proofs.ModeSteps.{rest_behind, with_value, cut_begin, value_ended}
use Rattle.xcdr_reader.proofs.PieceSteps.{heading_then, next_begin, nothing_known, next_passed, some_piece, next_told, piece_at, pieces_begin, piece_next, piece_none, piece_after, piece_twice, piece_passed, passed_piece, piece_kept, kept_piece}
use Rattle.xcdr_reader.proofs.decode.+decode.Goals as goal

-- ---- a value

pub read_part-returns-in_err-frame : goal.read_part-returns-in_err-frame
read_part-returns-in_err-frame g t c =
    let p = err_from_is_err_and c.from_residual.result c.from_residual.ensures.1 in
    rw (p.1, p.2) (unopened c.args.mode (type_shape c.args.ty.now) c.framing.result (g.C.Cursor.state c.args.cursor.now) (g.C.Cursor.state c.open_frame.new.cursor) _ c.requires.sound c.framing.ensures c.in_err-frame.ensures.fault)

pub read_part-returns-in_err-part : goal.read_part-returns-in_err-part
read_part-returns-in_err-part g t c =
    let p = err_from_is_err_and c.from_residual-in_err-part.result c.from_residual-in_err-part.ensures.1 in
    rw (p.1, p.2) (inside_fails c.args.mode (type_shape c.args.ty.now) c.in_ok-frame.frame.framing c.in_ok-frame.frame.outer (g.C.Cursor.state c.args.cursor.now) (g.C.Cursor.state c.open_frame.new.cursor) (g.C.Cursor.state c.read_inside.new.cursor) _ c.requires.sound (c.in_ok-frame.ensures.framing ∙ c.framing.ensures) c.in_ok-frame.ensures.opened c.in_err-part.ensures)

pub read_part-close_frame-requires : goal.read_part-close_frame-requires
read_part-close_frame-requires g t c = may_close c.in_ok-frame.frame.framing (g.C.Cursor.state c.args.cursor.now) (g.C.Cursor.state c.open_frame.new.cursor) (g.C.Cursor.state c.read_inside.new.cursor) c.in_ok-frame.frame.outer c.in_ok-frame.ensures.opened c.in_ok-part.ensures.within

pub read_part-returns-in_err-close_frame : goal.read_part-returns-in_err-close_frame
read_part-returns-in_err-close_frame g t c =
    let p = err_from_is_err_and c.from_residual-in_err-close_frame.result c.from_residual-in_err-close_frame.ensures.1 in
    rw (p.1, p.2) (not_closed c.args.mode (type_shape c.args.ty.now) c.in_ok-frame.frame.framing c.in_ok-frame.frame.outer (g.C.Cursor.state c.args.cursor.now) (g.C.Cursor.state c.open_frame.new.cursor) (g.C.Cursor.state c.read_inside.new.cursor) (g.C.Cursor.state c.close_frame.new.cursor) c.in_ok-part.part _ c.requires.sound (c.in_ok-frame.ensures.framing ∙ c.framing.ensures) (g.met.C.Cursor.stands c.read_inside.new.cursor) c.in_ok-frame.ensures.opened c.in_ok-part.ensures c.in_err-close_frame.ensures)

pub read_part-returns : goal.read_part-returns
read_part-returns g t c = closed c.args.mode (type_shape c.args.ty.now) c.in_ok-frame.frame.framing c.in_ok-frame.frame.outer (g.C.Cursor.state c.args.cursor.now) (g.C.Cursor.state c.open_frame.new.cursor) (g.C.Cursor.state c.read_inside.new.cursor) (g.C.Cursor.state c.close_frame.new.cursor) c.in_ok-part.part c.requires.sound (c.in_ok-frame.ensures.framing ∙ c.framing.ensures) (g.met.C.Cursor.stands c.read_inside.new.cursor) c.in_ok-frame.ensures.opened c.in_ok-part.ensures c.in_ok-close_frame.ensures

-- ---- the items of a collection

pub read_items-returns-in_err-count : goal.read_items-returns-in_err-count
read_items-returns-in_err-count g t c =
    let e = c.args.elem.now in
    let p = err_from_is_err_and c.from_residual.result c.from_residual.ensures.1 in
    rw (p.1, p.2) (fails (λ n. n) part_of (counted c.args.given) (items_behind c.args.mode c.args.bound e.tc (type_shape e.ty)) (items_begin c.args.mode c.args.bound e.tc (type_shape e.ty) c.args.given (g.C.Cursor.state c.args.cursor.now)) c.in_err-count.ensures)

pub read_items-loop-at-init : goal.read_items-loop-at-init
read_items-loop-at-init g t c =
    let e = c.args.elem.now in
    let u = goes_on (λ n. n) (counted c.args.given) (items_behind c.args.mode c.args.bound e.tc (type_shape e.ty)) (items_begin c.args.mode c.args.bound e.tc (type_shape e.ty) c.args.given (g.C.Cursor.state c.args.cursor.now)) c.in_ok-count.ensures in
    items_counted c.args.mode c.args.bound e.tc (type_shape e.ty) c.in_ok-count.count _ c.new-items.ensures.none u

pub read_items-returns-in_err-part : goal.read_items-returns-in_err-part
read_items-returns-in_err-part g t c =
    let e = c.args.elem.now in
    let T = type_shape e.ty in
    let p = err_from_is_err_and c.from_residual-in_err-part.result c.from_residual-in_err-part.ensures.1 in
    rw (p.1, p.2) (fails part_of part_of (value_at c.args.mode T) (item_then c.args.mode c.args.bound e.tc T c.in_ok-count.count c.loop-at.at (items_of c.loop-at.items)) (part_next (items_then c.args.bound e.tc (default_of T)) (and_item c.args.bound e.tc (default_of T)) (value_at c.args.mode T) c.in_ok-count.count c.loop-at.at (items_of c.loop-at.items) (items_law c.args.bound e.tc (default_of T)) c.loop-at-test.true c.loop-at.invariant) c.in_err-part.ensures)

pub read_items-loop-at-preserved : goal.read_items-loop-at-preserved
read_items-loop-at-preserved g t c =
    let e = c.args.elem.now in
    let T = type_shape e.ty in
    let u = goes_on part_of (value_at c.args.mode T) (item_then c.args.mode c.args.bound e.tc T c.in_ok-count.count c.loop-at.at (items_of c.loop-at.items)) (part_next (items_then c.args.bound e.tc (default_of T)) (and_item c.args.bound e.tc (default_of T)) (value_at c.args.mode T) c.in_ok-count.count c.loop-at.at (items_of c.loop-at.items) (items_law c.args.bound e.tc (default_of T)) c.loop-at-test.true c.loop-at.invariant) c.in_ok-part.ensures in
    rw c.in_ok-take.ensures u

pub read_items-returns : goal.read_items-returns
read_items-returns g t c =
    let e = c.args.elem.now in
    let T = type_shape e.ty in
    ends part_of (λ o. items.whole_of (items_of c.loop-at.items)) (part_none (items_then c.args.bound e.tc (default_of T)) (value_at c.args.mode T) c.in_ok-count.count c.loop-at.at (items_of c.loop-at.items) (omega arith) c.loop-at.invariant) c.part.ensures

pub read_items-read_numbers-requires : goal.read_items-read_numbers-requires
read_items-read_numbers-requires g t c = prim_is (type_shape c.args.elem.now.ty) c.in-Some.prim c.in-Some.ensures

pub read_items-returns-in-Some : goal.read_items-returns-in-Some
read_items-returns-in-Some g t c =
    let e = c.args.elem.now in
    let u = goes_on (λ n. n) (counted c.args.given) (items_behind c.args.mode c.args.bound e.tc (type_shape e.ty)) (items_begin c.args.mode c.args.bound e.tc (type_shape e.ty) c.args.given (g.C.Cursor.state c.args.cursor.now)) c.in_ok-count.ensures in
    last part_of (items_read c.args.mode c.args.bound e.tc (type_shape e.ty) (Some c.in_ok-count.count)) (items_given c.args.mode c.args.bound e.tc (type_shape e.ty) c.in_ok-count.count u) c.read_numbers.ensures

-- ---- members in declared order

pub read_members-loop-at-init : goal.read_members-loop-at-init
read_members-loop-at-init g t c = members_begin c.args.mode c.args.cut c.args.members.now _ (g.C.Cursor.state c.args.cursor.now) c.new-slots.ensures.none c.requires.apart

pub read_members-returns-in_err-read_slot : goal.read_members-returns-in_err-read_slot
read_members-returns-in_err-read_slot g t c =
    let m = c.index-members-at.result in
    let ms = c.args.members.now in
    let i = c.loop-at.at in
    let so = slots_of c.loop-at.slots in
    let p = err_from_is_err_and c.from_residual.result c.from_residual.ensures.1 in
    rw (p.1, p.2) (fails (λ u. slots_of c.read_slot.new.slots) part_of (slot_more c.args.mode c.args.cut (member_head m) (type_shape m.ty) so) (λ x. members_from c.args.mode c.args.cut ms (i + 1) x) (more_next c.args.mode c.args.cut ms i m so c.loop-at-test.true c.index-members-at.is c.loop-at.invariant) c.in_err-read_slot.ensures)

pub read_members-loop-at-preserved : goal.read_members-loop-at-preserved
read_members-loop-at-preserved g t c =
    let m = c.index-members-at.result in
    let ms = c.args.members.now in
    let i = c.loop-at.at in
    let so = slots_of c.loop-at.slots in
    goes_on (λ u. slots_of c.read_slot.new.slots) (slot_more c.args.mode c.args.cut (member_head m) (type_shape m.ty) so) (λ x. members_from c.args.mode c.args.cut ms (i + 1) x) (more_next c.args.mode c.args.cut ms i m so c.loop-at-test.true c.index-members-at.is c.loop-at.invariant) c.in_ok-read_slot.ensures

pub read_members-returns : goal.read_members-returns
read_members-returns g t c =
    let so = slots_of c.loop-at.slots in
    ends part_of (λ o. structure_of so) (members_none c.args.mode c.args.cut c.args.members.now c.loop-at.at so c.loop-at-test.false c.loop-at.invariant) c.part-2.ensures

-- ---- a member

-- what is behind the member's coming, by what it is
abbrev told : Mode → Bool → Coming → Head → Shape → Option (List Body) × Bool → Standing → Standing → Type 0
told m cut x h t so a b = Ahead (slot_more m cut h t so) (more_behind m h t so x) a b

abbrev coming_at : Mode → Bool → Bool → ℕ → Order → Spot → Reading Coming
coming_at m cut optional id o s = coming_read m cut optional id o s

pub read_slot-returns-in_err-read_coming : goal.read_slot-returns-in_err-read_coming
read_slot-returns-in_err-read_coming g t c =
    let m = c.args.member.now in
    let so = slots_of c.args.slots.now in
    let p = err_from_is_err_and c.from_residual.result c.from_residual.ensures.1 in
    rw (p.1, p.2) (fails (λ x. x) (λ u. so) (coming_at c.args.mode c.args.cut m.optional m.id) (more_behind c.args.mode (member_head m) (type_shape m.ty) so) (more_begin c.args.mode c.args.cut (member_head m) (type_shape m.ty) so (g.C.Cursor.state c.args.cursor.now)) c.in_err-read_coming.ensures.value)

pub read_slot-returns-in_ok-take-in-Absent : goal.read_slot-returns-in_ok-take-in-Absent
read_slot-returns-in_ok-take-in-Absent g t c =
    let m = c.args.member.now in
    let h = member_head m in
    let T = type_shape m.ty in
    let so = slots_of c.args.slots.now in
    let a = g.C.Cursor.state c.args.cursor.now in
    let u = goes_on (λ x. x) (coming_at c.args.mode c.args.cut m.optional m.id) (more_behind c.args.mode h T so) (more_begin c.args.mode c.args.cut h T so a) c.in_ok-read_coming.ensures.value in
    let v : told c.args.mode c.args.cut Absent h T so a (g.C.Cursor.state c.read_coming.new.cursor) = rw c.in-Absent.is at u in
    ends (λ u. slots_of c.take.new.self) (λ o. and_slot so (slot_part h T None)) (more_absent c.args.mode h T so v) (c.in_ok-take-in-Absent.ensures ∙ ap (and_slot so) c.in_ok-settled-in-Absent.ensures)

pub read_slot-returns-in_err-part-in-Here : goal.read_slot-returns-in_err-part-in-Here
read_slot-returns-in_err-part-in-Here g t c =
    let m = c.args.member.now in
    let h = member_head m in
    let T = type_shape m.ty in
    let so = slots_of c.args.slots.now in
    let a = g.C.Cursor.state c.args.cursor.now in
    let u = goes_on (λ x. x) (coming_at c.args.mode c.args.cut m.optional m.id) (more_behind c.args.mode h T so) (more_begin c.args.mode c.args.cut h T so a) c.in_ok-read_coming.ensures.value in
    let v : told c.args.mode c.args.cut Here h T so a (g.C.Cursor.state c.read_coming.new.cursor) = rw c.in-Here.is at u in
    let p = err_from_is_err_and c.from_residual-in_err-part-in-Here.result c.from_residual-in_err-part-in-Here.ensures.1 in
    rw (p.1, p.2) (fails part_of (λ u. so) (value_at (inner c.args.mode) T) (more_made h T so) (more_here c.args.mode h T so v) (rw c.inner.ensures at c.in_err-part-in-Here.ensures))

pub read_slot-returns-in_ok-take_part-in-Here : goal.read_slot-returns-in_ok-take_part-in-Here
read_slot-returns-in_ok-take_part-in-Here g t c =
    let m = c.args.member.now in
    let h = member_head m in
    let T = type_shape m.ty in
    let so = slots_of c.args.slots.now in
    let a = g.C.Cursor.state c.args.cursor.now in
    let u = goes_on (λ x. x) (coming_at c.args.mode c.args.cut m.optional m.id) (more_behind c.args.mode h T so) (more_begin c.args.mode c.args.cut h T so a) c.in_ok-read_coming.ensures.value in
    let v : told c.args.mode c.args.cut Here h T so a (g.C.Cursor.state c.read_coming.new.cursor) = rw c.in-Here.is at u in
    let w = goes_on part_of (value_at (inner c.args.mode) T) (more_made h T so) (more_here c.args.mode h T so v) (rw c.inner.ensures at c.in_ok-part-in-Here.ensures) in
    ends (λ u. slots_of c.take_part.new.self) (λ o. and_slot so (slot_part h T (Some (part_of c.in_ok-part-in-Here.part)))) w c.in_ok-take_part-in-Here.ensures

pub read_slot-returns-in_err-part-in-Content : goal.read_slot-returns-in_err-part-in-Content
read_slot-returns-in_err-part-in-Content g t c =
    let m = c.args.member.now in
    let h = member_head m in
    let T = type_shape m.ty in
    let so = slots_of c.args.slots.now in
    let a = g.C.Cursor.state c.args.cursor.now in
    let n = c.in-Content.length in
    let u = goes_on (λ x. x) (coming_at c.args.mode c.args.cut m.optional m.id) (more_behind c.args.mode h T so) (more_begin c.args.mode c.args.cut h T so a) c.in_ok-read_coming.ensures.value in
    let v : told c.args.mode c.args.cut (Content n) h T so a (g.C.Cursor.state c.read_coming.new.cursor) = rw c.in-Content.is at u in
    let p = err_from_is_err_and c.from_residual-in_err-part-in-Content.result c.from_residual-in_err-part-in-Content.ensures.1 in
    rw (p.1, p.2) (fails part_of (λ u. so) (content_in c.args.mode n T) (more_made h T so) (more_content c.args.mode h T n so v) c.in_err-part-in-Content.ensures.value)

pub read_slot-returns-in_ok-take_part-in-Content : goal.read_slot-returns-in_ok-take_part-in-Content
read_slot-returns-in_ok-take_part-in-Content g t c =
    let m = c.args.member.now in
    let h = member_head m in
    let T = type_shape m.ty in
    let so = slots_of c.args.slots.now in
    let a = g.C.Cursor.state c.args.cursor.now in
    let n = c.in-Content.length in
    let u = goes_on (λ x. x) (coming_at c.args.mode c.args.cut m.optional m.id) (more_behind c.args.mode h T so) (more_begin c.args.mode c.args.cut h T so a) c.in_ok-read_coming.ensures.value in
    let v : told c.args.mode c.args.cut (Content n) h T so a (g.C.Cursor.state c.read_coming.new.cursor) = rw c.in-Content.is at u in
    let w = goes_on part_of (content_in c.args.mode n T) (more_made h T so) (more_content c.args.mode h T n so v) c.in_ok-part-in-Content.ensures.value in
    ends (λ u. slots_of c.take_part-in-Content.new.self) (λ o. and_slot so (slot_part h T (Some (part_of c.in_ok-part-in-Content.part)))) w c.in_ok-take_part-in-Content.ensures

-- ---- members of a region that may end before the last

pub read_cut-returns-in_err-part : goal.read_cut-returns-in_err-part
read_cut-returns-in_err-part g t c =
    let ms = members_shape c.args.members.now in
    let p = err_from_is_err_and c.from_residual.result c.from_residual.ensures.1 in
    rw (p.1, p.2) (fails part_of part_of (members_read c.args.mode true ms) (rest_behind c.args.mode) (cut_begin c.args.mode ms (g.C.Cursor.state c.args.cursor.now)) c.in_err-part.ensures)

pub read_cut-returns-in_err-pass_rest : goal.read_cut-returns-in_err-pass_rest
read_cut-returns-in_err-pass_rest g t c =
    let ms = members_shape c.args.members.now in
    let x = part_of c.in_ok-part.part in
    let p = err_from_is_err_and c.from_residual-in_err-pass_rest.result c.from_residual-in_err-pass_rest.ensures.1 in
    let u = goes_on part_of (members_read c.args.mode true ms) (rest_behind c.args.mode) (cut_begin c.args.mode ms (g.C.Cursor.state c.args.cursor.now)) c.in_ok-part.ensures in
    rw (p.1, p.2) (fails (λ u. u) part_of (λ o s. to_end c.args.mode tt s) (with_value x) (value_ended c.args.mode x u) c.in_err-pass_rest.ensures)

pub read_cut-returns : goal.read_cut-returns
read_cut-returns g t c =
    let ms = members_shape c.args.members.now in
    let x = part_of c.in_ok-part.part in
    let u = goes_on part_of (members_read c.args.mode true ms) (rest_behind c.args.mode) (cut_begin c.args.mode ms (g.C.Cursor.state c.args.cursor.now)) c.in_ok-part.ensures in
    ends part_of (λ o. x) (goes_on (λ u. u) (λ o s. to_end c.args.mode tt s) (with_value x) (value_ended c.args.mode x u) c.in_ok-pass_rest.ensures) refl

-- ---- the entries of a map

pub read_entries-returns-in_err-count : goal.read_entries-returns-in_err-count
read_entries-returns-in_err-count g t c =
    let k = c.args.kind.now in
    let p = err_from_is_err_and c.from_residual.result c.from_residual.ensures.1 in
    rw (p.1, p.2) (fails (λ n. n) part_of (λ o s. number_at 4 o 4 s) (entries_behind c.args.mode k.bound k.key.tc (type_shape k.key.ty) k.value.tc (type_shape k.value.ty)) (entries_begin c.args.mode k.bound k.key.tc (type_shape k.key.ty) k.value.tc (type_shape k.value.ty) (g.C.Cursor.state c.args.cursor.now)) c.in_err-count.ensures)

pub read_entries-loop-at-init : goal.read_entries-loop-at-init
read_entries-loop-at-init g t c =
    let k = c.args.kind.now in
    let u = goes_on (λ n. n) (λ o s. number_at 4 o 4 s) (entries_behind c.args.mode k.bound k.key.tc (type_shape k.key.ty) k.value.tc (type_shape k.value.ty)) (entries_begin c.args.mode k.bound k.key.tc (type_shape k.key.ty) k.value.tc (type_shape k.value.ty) (g.C.Cursor.state c.args.cursor.now)) c.in_ok-count.ensures in
    entries_counted c.args.mode k.bound k.key.tc (type_shape k.key.ty) k.value.tc (type_shape k.value.ty) c.in_ok-count.count _ c.new-entries.ensures.none u

pub read_entries-returns-in_err-key : goal.read_entries-returns-in_err-key
read_entries-returns-in_err-key g t c =
    let k = c.args.kind.now in
    let K = type_shape k.key.ty in
    let T = type_shape k.value.ty in
    let so = entries_of c.loop-at.entries in
    let p = err_from_is_err_and c.from_residual-in_err-key.result c.from_residual-in_err-key.ensures.1 in
    rw (p.1, p.2) (fails part_of part_of (value_at c.args.mode K) (value_then c.args.mode k.bound k.key.tc K k.value.tc T c.in_ok-count.count c.loop-at.at so) (entry_next c.args.mode k.bound k.key.tc K k.value.tc T c.in_ok-count.count c.loop-at.at so c.loop-at-test.true c.loop-at.invariant) c.in_err-key.ensures)

pub read_entries-returns-in_err-value : goal.read_entries-returns-in_err-value
read_entries-returns-in_err-value g t c =
    let k = c.args.kind.now in
    let K = type_shape k.key.ty in
    let T = type_shape k.value.ty in
    let n = c.in_ok-count.count in
    let i = c.loop-at.at in
    let so = entries_of c.loop-at.entries in
    let u = goes_on part_of (value_at c.args.mode K) (value_then c.args.mode k.bound k.key.tc K k.value.tc T n i so) (entry_next c.args.mode k.bound k.key.tc K k.value.tc T n i so c.loop-at-test.true c.loop-at.invariant) c.in_ok-key.ensures in
    let p = err_from_is_err_and c.from_residual-in_err-value.result c.from_residual-in_err-value.ensures.1 in
    rw (p.1, p.2) (fails part_of part_of (value_at c.args.mode T) (entry_then c.args.mode k.bound k.key.tc K k.value.tc T n i so (part_of c.in_ok-key.key)) u c.in_err-value.ensures)

pub read_entries-loop-at-preserved : goal.read_entries-loop-at-preserved
read_entries-loop-at-preserved g t c =
    let k = c.args.kind.now in
    let K = type_shape k.key.ty in
    let T = type_shape k.value.ty in
    let n = c.in_ok-count.count in
    let i = c.loop-at.at in
    let so = entries_of c.loop-at.entries in
    let u = goes_on part_of (value_at c.args.mode K) (value_then c.args.mode k.bound k.key.tc K k.value.tc T n i so) (entry_next c.args.mode k.bound k.key.tc K k.value.tc T n i so c.loop-at-test.true c.loop-at.invariant) c.in_ok-key.ensures in
    let v = goes_on part_of (value_at c.args.mode T) (entry_then c.args.mode k.bound k.key.tc K k.value.tc T n i so (part_of c.in_ok-key.key)) u c.in_ok-value.ensures in
    rw c.in_ok-take.ensures v

pub read_entries-returns : goal.read_entries-returns
read_entries-returns g t c =
    let k = c.args.kind.now in
    let K = type_shape k.key.ty in
    let T = type_shape k.value.ty in
    let so = entries_of c.loop-at.entries in
    ends part_of (λ o. entries.whole_of so) (part_none (entries_then k.bound k.key.tc (default_of K) k.value.tc (default_of T)) (entry_at c.args.mode K T) c.in_ok-count.count c.loop-at.at so (omega arith) c.loop-at.invariant) c.in_ok-part.ensures

-- ---- a content, which is all of its region

pub read_filled-returns-in_err-outer-clause-value : goal.read_filled-returns-in_err-outer-clause-value
read_filled-returns-in_err-outer-clause-value g t c =
    let f = λ (o : Order) (s : Spot). filling c.args.length (λ s1. read o (type_shape c.args.ty.now) s1) s in
    let p = err_from_is_err_and c.from_residual.result c.from_residual.ensures.1 in
    rw (p.1, p.2) (read_fault {f = f} {k = f} part_of (begins f f (g.C.Cursor.state c.args.cursor.now) (λ s. refl)) c.in_err-outer.ensures.fault)

pub read_filled-returns-in_err-part-clause-value : goal.read_filled-returns-in_err-part-clause-value
read_filled-returns-in_err-part-clause-value g t c =
    let p = err_from_is_err_and c.from_residual-in_err-part.result c.from_residual-in_err-part.ensures.1 in
    rw (p.1, p.2) (filled_fails part_of part_of (value_at Two (type_shape c.args.ty.now)) c.args.length (g.C.Cursor.state c.args.cursor.now) (g.C.Cursor.state c.enter_part.new.cursor) (g.C.Cursor.state c.read_part.new.cursor) c.in_ok-outer.outer _ (g.met.C.Cursor.stands c.args.cursor.now) c.in_ok-outer.ensures.entered c.in_err-part.ensures)

pub read_filled-close_frame-requires : goal.read_filled-close_frame-requires
read_filled-close_frame-requires g t c = may_leave c.args.length (g.C.Cursor.state c.args.cursor.now) (g.C.Cursor.state c.enter_part.new.cursor) (g.C.Cursor.state c.read_part.new.cursor) c.in_ok-outer.outer (g.met.C.Cursor.stands c.args.cursor.now) c.in_ok-outer.ensures.entered c.in_ok-part.ensures.within

pub read_filled-returns-in_err-close_frame-clause-value : goal.read_filled-returns-in_err-close_frame-clause-value
read_filled-returns-in_err-close_frame-clause-value g t c =
    let p = err_from_is_err_and c.from_residual-in_err-close_frame.result c.from_residual-in_err-close_frame.ensures.1 in
    rw (p.1, p.2) (content_stops {t = c.in_ok-part.part} part_of (value_at Two (type_shape c.args.ty.now)) c.args.length (g.C.Cursor.state c.args.cursor.now) (g.C.Cursor.state c.enter_part.new.cursor) (g.C.Cursor.state c.read_part.new.cursor) (g.C.Cursor.state c.close_frame.new.cursor) c.in_ok-outer.outer _ (g.met.C.Cursor.stands c.args.cursor.now) (g.met.C.Cursor.stands c.read_part.new.cursor) c.in_ok-outer.ensures.entered c.in_ok-part.ensures c.in_err-close_frame.ensures)

pub read_filled-returns-clause-value : goal.read_filled-returns-clause-value
read_filled-returns-clause-value g t c = filled_closes part_of (value_at Two (type_shape c.args.ty.now)) c.args.length (g.C.Cursor.state c.args.cursor.now) (g.C.Cursor.state c.enter_part.new.cursor) (g.C.Cursor.state c.read_part.new.cursor) (g.C.Cursor.state c.close_frame.new.cursor) c.in_ok-outer.outer (g.met.C.Cursor.stands c.args.cursor.now) (g.met.C.Cursor.stands c.read_part.new.cursor) c.in_ok-outer.ensures.entered c.in_ok-part.ensures c.in_ok-close_frame.ensures

-- ---- a content with an origin of its own

abbrev tail_at : Shape → Order → Spot → Reading model.Part
tail_at t o s = read1 true o t s

pub read_parameter_content-returns-in_err-content-clause-value : goal.read_parameter_content-returns-in_err-content-clause-value
read_parameter_content-returns-in_err-content-clause-value g t c =
    let T = type_shape c.args.ty.now in
    let p = err_from_is_err_and c.from_residual.result c.from_residual.ensures.1 in
    rw (p.1, p.2) (content_unopened part_of (tail_at T) c.args.length (not (is_open T)) c.in_err-content.ensures.fault)

pub read_parameter_content-returns-in_err-part-clause-value : goal.read_parameter_content-returns-in_err-part-clause-value
read_parameter_content-returns-in_err-part-clause-value g t c =
    let T = type_shape c.args.ty.now in
    let p = err_from_is_err_and c.from_residual-in_err-part.result c.from_residual-in_err-part.ensures.1 in
    rw (p.1, p.2) (content_fails part_of part_of (tail_at T) c.args.length (not (is_open T)) (g.C.Cursor.state c.args.cursor.now) (g.C.Cursor.state c.open_content.new.cursor) (g.C.Cursor.state c.read_part.new.cursor) c.in_ok-content.content _ (g.met.C.Cursor.stands c.args.cursor.now) c.in_ok-content.ensures.opened c.in_err-part.ensures)

pub read_parameter_content-close_content-requires : goal.read_parameter_content-close_content-requires
read_parameter_content-close_content-requires g t c = may_close_content (g.met.C.Cursor.stands c.args.cursor.now) c.in_ok-content.ensures.opened c.in_ok-part.ensures.within c.in_ok-part.ensures.later

pub read_parameter_content-returns-in_err-close_content-clause-value : goal.read_parameter_content-returns-in_err-close_content-clause-value
read_parameter_content-returns-in_err-close_content-clause-value g t c =
    let T = type_shape c.args.ty.now in
    let p = err_from_is_err_and c.from_residual-in_err-close_content.result c.from_residual-in_err-close_content.ensures.1 in
    rw (p.1, p.2) (content_unended {t = c.in_ok-part.part} part_of (tail_at T) c.args.length (not (is_open T)) (g.C.Cursor.state c.args.cursor.now) (g.C.Cursor.state c.open_content.new.cursor) (g.C.Cursor.state c.read_part.new.cursor) (g.C.Cursor.state c.close_content.new.cursor) c.in_ok-content.content _ (g.met.C.Cursor.stands c.args.cursor.now) (g.met.C.Cursor.stands c.read_part.new.cursor) c.in_ok-content.ensures.opened c.in_ok-part.ensures (rw c.spare_of.ensures at c.in_err-close_content.ensures))

pub read_parameter_content-returns-clause-value : goal.read_parameter_content-returns-clause-value
read_parameter_content-returns-clause-value g t c =
    let T = type_shape c.args.ty.now in
    content_ends part_of (tail_at T) c.args.length (not (is_open T)) (g.C.Cursor.state c.args.cursor.now) (g.C.Cursor.state c.open_content.new.cursor) (g.C.Cursor.state c.read_part.new.cursor) (g.C.Cursor.state c.close_content.new.cursor) c.in_ok-content.content c.in_ok-part.part (g.met.C.Cursor.stands c.args.cursor.now) (g.met.C.Cursor.stands c.read_part.new.cursor) c.in_ok-content.ensures.opened c.in_ok-part.ensures (rw c.spare_of.ensures at c.in_ok-close_content.ensures)

-- ---- a value that has the rest of the region

pub read_whole-returns-then-fills : goal.read_whole-returns-then-fills
read_whole-returns-then-fills g t c = rest_filled c.args.mode c.args.filled (type_shape c.args.ty.now) _ (g.met.C.Cursor.stands c.args.cursor.now) (sym c.if-fills.ensures) (ap₂ (λ (x y : ℕ). x - y) c.region_end.ensures c.place.ensures) c.read_content.ensures.value

pub read_whole-returns : goal.read_whole-returns
read_whole-returns g t c = own_whole c.args.mode c.args.filled (type_shape c.args.ty.now) (sym c.if-fills.ensures) c.read_part.ensures

-- ---- unions

-- a number that was passed on is the same
case_of_number : {T : Type 0} {view : T → model.Body × Bool} {a b : Standing} {r : Result T DecodeFault} (k : Mode) (filled : Bool) (cs ds : Cases) (n m : ℤ) → ds ≡ cs → m ≡ n → Decodes view (case_in k filled ds m) a b r → Decodes view (case_in k filled cs n) a b r
case_of_number {view = view} {a} {b} {r} k filled cs ds n m e is d = subst (λ (j : ℤ). Decodes view (case_in k filled cs j) a b r) is (subst (λ (xs : Cases). Decodes view (case_in k filled xs m) a b r) e d)

whole_same : (n : ℤ) {m : ℤ} (fits : Bool) (disc : Shape) (x : model.Body × Bool) {p : model.Part} → p ≡ model.whole_union (cond fits (model.got (int m)) model.failed) m x → model.disc_built disc m ≡ cond fits (model.got (int m)) model.failed → m ≡ n → p ≡ model.whole_union (model.disc_built disc n) n x
whole_same n {m} fits disc x {p} e built is = subst (λ (k : ℤ). p ≡ model.whole_union (model.disc_built disc k) k x) is (e ∙ ap (λ (b : model.Built). model.whole_union b m x) (sym built))

same_choice : (filled ended : Bool) (cs : Cases) (n m : ℤ) (k : Choice) → m ≡ n → k ≡ choice filled ended cs m → k ≡ choice filled ended cs n
same_choice filled ended cs n m k is e = subst (λ (j : ℤ). k ≡ choice filled ended cs j) is e

pub read_selected-returns-in_err-number : goal.read_selected-returns-in_err-number
read_selected-returns-in_err-number g t c =
    let u = out-UnionType c.args.kind.now in
    let p = err_from_is_err_and c.from_residual.result c.from_residual.ensures.1 in
    rw (p.1, p.2) (fails (λ i. i) part_of (λ o s. scalar_at (most c.args.mode) o (type_shape u.disc) s) (union_behind c.args.mode c.args.filled (type_shape u.disc) (cases_shape u.cases)) (union_begin c.args.mode c.args.filled (type_shape u.disc) (cases_shape u.cases) (g.C.Cursor.state c.args.cursor.now)) c.in_err-number.ensures)

pub read_selected-returns-in_err-case : goal.read_selected-returns-in_err-case
read_selected-returns-in_err-case g t c =
    let u = out-UnionType c.args.kind.now in
    let v = goes_on (λ i. i) (λ o s. scalar_at (most c.args.mode) o (type_shape u.disc) s) (union_behind c.args.mode c.args.filled (type_shape u.disc) (cases_shape u.cases)) (union_begin c.args.mode c.args.filled (type_shape u.disc) (cases_shape u.cases) (g.C.Cursor.state c.args.cursor.now)) c.in_ok-number.ensures in
    let p = err_from_is_err_and c.from_residual-in_err-case.result c.from_residual-in_err-case.ensures.1 in
    rw (p.1, p.2) (fails case_of part_of (case_in c.args.mode c.args.filled (cases_shape u.cases) c.in_ok-number.number) (union_made (type_shape u.disc) c.in_ok-number.number) v (case_of_number c.args.mode c.args.filled (cases_shape u.cases) (cases_shape c.as_slice.result.now) c.in_ok-number.number _ (ap cases_shape c.as_slice.ensures) (search rules) c.in_err-case.ensures))

pub read_selected-returns : goal.read_selected-returns
read_selected-returns g t c =
    let u = out-UnionType c.args.kind.now in
    let d = c.in_ok-number.number in
    let v = goes_on (λ i. i) (λ o s. scalar_at (most c.args.mode) o (type_shape u.disc) s) (union_behind c.args.mode c.args.filled (type_shape u.disc) (cases_shape u.cases)) (union_begin c.args.mode c.args.filled (type_shape u.disc) (cases_shape u.cases) (g.C.Cursor.state c.args.cursor.now)) c.in_ok-number.ensures in
    let w = goes_on case_of (case_in c.args.mode c.args.filled (cases_shape u.cases) d) (union_made (type_shape u.disc) d) v (case_of_number c.args.mode c.args.filled (cases_shape u.cases) (cases_shape c.as_slice.result.now) d _ (ap cases_shape c.as_slice.ensures) (search rules) c.in_ok-case.ensures) in
    ends part_of (λ o. model.whole_union (model.disc_built (type_shape u.disc) d) d (case_of c.in_ok-case.case)) w (whole_same d c.fits_disc-fits.result (type_shape u.disc) (case_of c.in_ok-case.case) c.in_ok-whole_union.ensures c.fits_disc-fits.ensures (search rules))

pub read_case-returns-in-NoCase : goal.read_case-returns-in-NoCase
read_case-returns-in-NoCase g t c = ends case_of (λ o. (model.no_body, false)) (chosen c.args.mode c.args.filled c.has_ended.result (cases_shape c.args.cases.now) c.args.number _ (g.C.Cursor.state c.args.cursor.now) (g.met.C.Cursor.stands c.args.cursor.now) c.has_ended.ensures (same_choice c.args.filled c.has_ended.result (cases_shape c.args.cases.now) c.args.number _ _ (search rules) c.in-NoCase.ensures.choice)) refl

pub read_case-returns-in_err-pass_rest-in-OneSided : goal.read_case-returns-in_err-pass_rest-in-OneSided
read_case-returns-in_err-pass_rest-in-OneSided g t c =
    let cs = cases_shape c.args.cases.now in
    let p = err_from_is_err_and c.from_residual.result c.from_residual.ensures.1 in
    let u = chosen c.args.mode c.args.filled c.has_ended.result cs c.args.number _ (g.C.Cursor.state c.args.cursor.now) (g.met.C.Cursor.stands c.args.cursor.now) c.has_ended.ensures (same_choice c.args.filled c.has_ended.result cs c.args.number _ _ (search rules) c.in-OneSided.ensures.choice) in
    rw (p.1, p.2) (fails (λ u. u) case_of (λ o s. to_end c.args.mode tt s) (with_value (model.one_sided, false)) (value_ended c.args.mode (model.one_sided, false) u) c.in_err-pass_rest-in-OneSided.ensures)

pub read_case-returns-in_ok-pass_rest-in-OneSided : goal.read_case-returns-in_ok-pass_rest-in-OneSided
read_case-returns-in_ok-pass_rest-in-OneSided g t c =
    let cs = cases_shape c.args.cases.now in
    let u = chosen c.args.mode c.args.filled c.has_ended.result cs c.args.number _ (g.C.Cursor.state c.args.cursor.now) (g.met.C.Cursor.stands c.args.cursor.now) c.has_ended.ensures (same_choice c.args.filled c.has_ended.result cs c.args.number _ _ (search rules) c.in-OneSided.ensures.choice) in
    ends case_of (λ o. (model.one_sided, false)) (goes_on (λ u. u) (λ o s. to_end c.args.mode tt s) (with_value (model.one_sided, false)) (value_ended c.args.mode (model.one_sided, false) u) c.in_ok-pass_rest-in-OneSided.ensures) refl

pub read_case-returns-in-Case : goal.read_case-returns-in-Case
read_case-returns-in-Case g t c =
    let m = c.index-cases-at.result in
    last case_of (body_read c.args.mode c.args.filled (case_head m) (type_shape m.ty)) (of_item c.args.mode c.args.filled c.args.cases.now c.in-Case.at m c.in-Case.ensures.within c.index-cases-at.is (chosen c.args.mode c.args.filled c.has_ended.result (cases_shape c.args.cases.now) c.args.number _ (g.C.Cursor.state c.args.cursor.now) (g.met.C.Cursor.stands c.args.cursor.now) c.has_ended.ensures (same_choice c.args.filled c.has_ended.result (cases_shape c.args.cases.now) c.args.number _ _ (search rules) c.in-Case.ensures.choice))) c.read_body.ensures

abbrev case_made : CaseHead → Shape → model.Part → Order → Spot → Reading (model.Body × Bool)
case_made h t x o s = Ok (model.settled_case h t x, s)

pub read_body-returns-in_err-part : goal.read_body-returns-in_err-part
read_body-returns-in_err-part g t c =
    let m = c.args.case.now in
    let p = err_from_is_err_and c.from_residual.result c.from_residual.ensures.1 in
    rw (p.1, p.2) (fails part_of case_of (whole_read c.args.mode c.args.filled (type_shape m.ty)) (case_made (case_head m) (type_shape m.ty)) (begins (body_read c.args.mode c.args.filled (case_head m) (type_shape m.ty)) _ (g.C.Cursor.state c.args.cursor.now) (λ s. refl)) c.in_err-part.ensures)

pub read_body-returns : goal.read_body-returns
read_body-returns g t c =
    let m = c.args.case.now in
    let u = goes_on part_of (whole_read c.args.mode c.args.filled (type_shape m.ty)) (case_made (case_head m) (type_shape m.ty)) (begins (body_read c.args.mode c.args.filled (case_head m) (type_shape m.ty)) _ (g.C.Cursor.state c.args.cursor.now) (λ s. refl)) c.in_ok-part.ensures in
    ends case_of (λ o. model.settled_case (case_head m) (type_shape m.ty) (part_of c.in_ok-part.part)) u c.in_ok-settle_case.ensures

-- ---- a piece

-- a member that was passed on whole is the list's
content_of_member : {T : Type 0} {view : T → model.Part} {a b : Standing} {r : Result T DecodeFault} (x : Mode) (n : ℕ) (k m : Member) → k ≡ m → Decodes view (content_in x n (type_shape k.ty)) a b r → Decodes view (content_in x n (type_shape m.ty)) a b r
content_of_member {view = view} {a} {b} {r} x n k m is d = subst (λ (y : Member). Decodes view (content_in x n (type_shape y.ty)) a b r) is d

pub read_piece-returns-in_err-place : goal.read_piece-returns-in_err-place
read_piece-returns-in_err-place g t c =
    let ms = members_shape c.args.members.now in
    let a = g.C.Cursor.state c.args.cursor.now in
    let h = c.args.header in
    let p = err_from_is_err_and c.from_residual.result c.from_residual.ensures.1 in
    rw (p.1, p.2, c.in_err-place.ensures.place.0) (record { new = tt; within = tt; behind = tt; value = malformed piece_of (λ s. h.at - a.origin) why.Twice (piece_twice c.args.mode ms c.args.known.now h a c.in_err-place.ensures.place.1) (λ xs. omega (arith, c.requires.at)) })

pub read_piece-returns-in_err-part-in-Some-clause-value : goal.read_piece-returns-in_err-part-in-Some-clause-value
read_piece-returns-in_err-part-in-Some-clause-value g t c =
    let there = rw c.in-Some.is at c.in_ok-place.ensures.place in
    let d = c.index-members-at.result in
    let m = get_or c.args.members.now c.in-Some.at d in
    let h = c.args.header in
    let p = err_from_is_err_and c.from_residual-in_err-part-in-Some.result c.from_residual-in_err-part-in-Some.ensures.1 in
    rw (p.1, p.2) (fails part_of piece_of (content_in c.args.mode h.length (type_shape m.ty)) (kept_piece h.id) (piece_kept c.args.mode c.args.members.now c.args.known.now h (g.C.Cursor.state c.args.cursor.now) c.in-Some.at d there.0 there.1 (rw c.in-Some.is at c.in_ok-place.ensures.within)) (content_of_member c.args.mode h.length d m c.index-members-at.is c.in_err-part-in-Some.ensures.value))

pub read_piece-returns-in_ok-part-in-Some-clause-value : goal.read_piece-returns-in_ok-part-in-Some-clause-value
read_piece-returns-in_ok-part-in-Some-clause-value g t c =
    let there = rw c.in-Some.is at c.in_ok-place.ensures.place in
    let d = c.index-members-at.result in
    let m = get_or c.args.members.now c.in-Some.at d in
    let h = c.args.header in
    let u = goes_on part_of (content_in c.args.mode h.length (type_shape m.ty)) (kept_piece h.id) (piece_kept c.args.mode c.args.members.now c.args.known.now h (g.C.Cursor.state c.args.cursor.now) c.in-Some.at d there.0 there.1 (rw c.in-Some.is at c.in_ok-place.ensures.within)) (content_of_member c.args.mode h.length d m c.index-members-at.is c.in_ok-part-in-Some.ensures.value) in
    ends piece_of (λ o. ((h.id, part_of c.in_ok-part-in-Some.part) ∷ [], false)) u refl

pub read_piece-returns-in_ok-read_pass-in-None-clause-value : goal.read_piece-returns-in_ok-read_pass-in-None-clause-value
read_piece-returns-in_ok-read_pass-in-None-clause-value g t c =
    let ms = members_shape c.args.members.now in
    let h = c.args.header in
    let u = goes_on (λ u. u) (pass_at h.length) (passed_piece h.must) (piece_passed c.args.mode ms c.args.known.now h (g.C.Cursor.state c.args.cursor.now) (g.met.C.Cursor.stands c.args.cursor.now) c.requires.room (rw c.in-None.is at c.in_ok-place.ensures.place)) c.in_ok-read_pass-in-None.ensures.value in
    ends piece_of (λ o. ([], h.must)) u refl

-- ---- what comes next among the pieces

pub read_next-returns-in_err-next_heading-clause-value : goal.read_next-returns-in_err-next_heading-clause-value
read_next-returns-in_err-next_heading-clause-value g t c =
    let ms = members_shape c.args.members.now in
    let a = g.C.Cursor.state c.args.cursor.now in
    let p = err_from_is_err_and c.from_residual.result c.from_residual.ensures.1 in
    rw (p.1, p.2) (unread_now a (g.C.Cursor.state c.next_heading.new.cursor) (fails (next_view a) (option_map piece_of) (next_in c.args.mode) (heading_then c.args.mode ms (has_come ms c.args.known.now)) (next_begin c.args.mode ms (has_come ms c.args.known.now) a) c.in_err-next_heading.ensures.value))

pub read_next-returns-in-End-clause-value : goal.read_next-returns-in-End-clause-value
read_next-returns-in-End-clause-value g t c =
    let ms = members_shape c.args.members.now in
    let a = g.C.Cursor.state c.args.cursor.now in
    let u = goes_on (next_view a) (next_in c.args.mode) (heading_then c.args.mode ms (has_come ms c.args.known.now)) (next_begin c.args.mode ms (has_come ms c.args.known.now) a) (rw c.in-End.is at c.in_ok-next_heading.ensures.value) in
    read_now a (g.C.Cursor.state c.next_heading.new.cursor) (rw c.in-End.is at c.in_ok-next_heading.ensures.held) (ends (option_map piece_of) (λ o. None) u refl)

pub read_next-returns-in_ok-read_pass-in-Ignored-clause-value : goal.read_next-returns-in_ok-read_pass-in-Ignored-clause-value
read_next-returns-in_ok-read_pass-in-Ignored-clause-value g t c =
    let ms = members_shape c.args.members.now in
    let a = g.C.Cursor.state c.args.cursor.now in
    let b = g.C.Cursor.state c.next_heading.new.cursor in
    let n = c.in-Ignored.length in
    let u = goes_on (next_view a) (next_in c.args.mode) (heading_then c.args.mode ms (has_come ms c.args.known.now)) (next_begin c.args.mode ms (has_come ms c.args.known.now) a) (rw c.in-Ignored.is at c.in_ok-next_heading.ensures.value) in
    let v = next_passed c.args.mode ms (has_come ms c.args.known.now) n (stands_unheld a b (g.met.C.Cursor.stands c.next_heading.new.cursor)) (rw c.in-Ignored.is at c.in_ok-next_heading.ensures.within) u in
    let d = read_behind n a b (g.C.Cursor.state c.read_pass.new.cursor) (rw c.in-Ignored.is at c.in_ok-next_heading.ensures.held) c.in_ok-read_pass-in-Ignored.ensures.behind c.in_ok-read_pass-in-Ignored.ensures.value in
    ends (option_map piece_of) (λ o. Some ([], false)) (goes_on (λ u. u) (pass_at n) nothing_known v d) refl

pub read_next-returns-in_err-piece-in-Member-clause-value : goal.read_next-returns-in_err-piece-in-Member-clause-value
read_next-returns-in_err-piece-in-Member-clause-value g t c =
    let ms = members_shape c.args.members.now in
    let a = g.C.Cursor.state c.args.cursor.now in
    let h = c.in-Member.header in
    let p = err_from_is_err_and c.from_residual-in_err-piece-in-Member.result c.from_residual-in_err-piece-in-Member.ensures.1 in
    let u = goes_on (next_view a) (next_in c.args.mode) (heading_then c.args.mode ms (has_come ms c.args.known.now)) (next_begin c.args.mode ms (has_come ms c.args.known.now) a) (rw c.in-Member.is at c.in_ok-next_heading.ensures.value) in
    let v = next_told c.args.mode ms c.args.known.now h a u.within.origin u in
    rw (p.1, p.2) (fails piece_of (option_map piece_of) (piece_at c.args.mode ms c.args.known.now h (g.C.Cursor.state c.next_heading.new.cursor)) some_piece v (unread_behind a (g.C.Cursor.state c.next_heading.new.cursor) (g.C.Cursor.state c.read_piece.new.cursor) c.in_err-piece-in-Member.ensures.value))

pub read_next-returns-in_ok-piece-in-Member-clause-value : goal.read_next-returns-in_ok-piece-in-Member-clause-value
read_next-returns-in_ok-piece-in-Member-clause-value g t c =
    let ms = members_shape c.args.members.now in
    let a = g.C.Cursor.state c.args.cursor.now in
    let h = c.in-Member.header in
    let u = goes_on (next_view a) (next_in c.args.mode) (heading_then c.args.mode ms (has_come ms c.args.known.now)) (next_begin c.args.mode ms (has_come ms c.args.known.now) a) (rw c.in-Member.is at c.in_ok-next_heading.ensures.value) in
    let v = next_told c.args.mode ms c.args.known.now h a u.within.origin u in
    let b = g.C.Cursor.state c.next_heading.new.cursor in
    let d = read_behind h.length a b (g.C.Cursor.state c.read_piece.new.cursor) (rw c.in-Member.is at c.in_ok-next_heading.ensures.held) c.in_ok-piece-in-Member.ensures.behind c.in_ok-piece-in-Member.ensures.value in
    let w = goes_on piece_of (piece_at c.args.mode ms c.args.known.now h b) some_piece v d in
    ends (option_map piece_of) (λ o. Some (piece_of c.in_ok-piece-in-Member.piece)) w refl

-- ---- pieces one after another

pub read_pieces-loop-turn-init : goal.read_pieces-loop-turn-init
read_pieces-loop-turn-init g t c = (([], false), c.in_ok-known.ensures, pieces_begin c.args.mode (members_shape c.args.members.now) _ (g.C.Cursor.state c.args.cursor.now) (g.met.C.Cursor.stands c.args.cursor.now) (ap₂ (λ (x y : ℕ). x - y) c.region_end.ensures c.place.ensures))

abbrev next_at : Mode → Members → Known → Order → Spot → Reading (Option Pieces)
next_at m ms k o s = next_piece m ms (has_come ms k) o s

pub read_pieces-returns-in_err-piece : goal.read_pieces-returns-in_err-piece
read_pieces-returns-in_err-piece g t c =
    let ms = members_shape c.args.members.now in
    let n = c.region_end.result - c.place.result in
    let i = c.loop-turn.turn in
    let k = c.loop-turn.known in
    let ps = c.loop-turn.invariant.0 in
    let p = err_from_is_err_and c.from_residual-in_err-piece.result c.from_residual-in_err-piece.ensures.1 in
    rw (p.1, p.2) (fails (option_map piece_of) part_of (next_at c.args.mode ms k) (piece_after c.args.mode ms n i ps) (piece_next c.args.mode ms n i k ps c.loop-turn-test.true c.loop-turn.invariant.1 c.loop-turn.invariant.2) c.in_err-piece.ensures.value)

pub read_pieces-returns-in_default : goal.read_pieces-returns-in_default
read_pieces-returns-in_default g t c =
    let ms = members_shape c.args.members.now in
    let n = c.region_end.result - c.place.result in
    let i = c.loop-turn.turn in
    let k = c.loop-turn.known in
    let ps = c.loop-turn.invariant.0 in
    let u = goes_on (option_map piece_of) (next_at c.args.mode ms k) (piece_after c.args.mode ms n i ps) (piece_next c.args.mode ms n i k ps c.loop-turn-test.true c.loop-turn.invariant.1 c.loop-turn.invariant.2) (rw c.in_default.is at c.in_ok-piece.ensures.value) in
    ends part_of (λ o. model.whole_structure ms ps.0 ps.1) u (c.in_ok-part.ensures ps c.loop-turn.invariant.1)

pub read_pieces-loop-turn-preserved : goal.read_pieces-loop-turn-preserved
read_pieces-loop-turn-preserved g t c =
    let ms = members_shape c.args.members.now in
    let n = c.region_end.result - c.place.result in
    let i = c.loop-turn.turn in
    let k = c.loop-turn.known in
    let ps = c.loop-turn.invariant.0 in
    let q = c.in-Some.piece in
    let u = goes_on (option_map piece_of) (next_at c.args.mode ms k) (piece_after c.args.mode ms n i ps) (piece_next c.args.mode ms n i k ps c.loop-turn-test.true c.loop-turn.invariant.1 c.loop-turn.invariant.2) (rw c.in-Some.is at c.in_ok-piece.ensures.value) in
    ((ps.0 ++ (piece_of q).0, ps.1 || (piece_of q).1), c.in_ok-keep.ensures ps c.loop-turn.invariant.1, u)

pub read_pieces-returns : goal.read_pieces-returns
read_pieces-returns g t c =
    let ms = members_shape c.args.members.now in
    let n = c.region_end.result - c.place.result in
    let ps = c.loop-turn.invariant.0 in
    last part_of (λ o s. no_more c.args.mode (model.whole_structure ms ps.0 ps.1) s) (piece_none c.args.mode ms n c.loop-turn.turn ps c.loop-turn-test.false c.loop-turn.invariant.2) (c.end_pieces.ensures ps c.loop-turn.invariant.1)

-- ---- structures and unions

pub read_structure-returns-in-Final : goal.read_structure-returns-in-Final
read_structure-returns-in-Final g t c = struct_inside c.args.mode c.args.kind.now Final c.as_slice-members.result.now c.in-Final.is (sym c.as_slice-members.ensures) c.read_members.ensures

pub read_structure-returns-in-Appendable : goal.read_structure-returns-in-Appendable
read_structure-returns-in-Appendable g t c = struct_inside c.args.mode c.args.kind.now Appendable c.as_slice-members.result.now c.in-Appendable.is (sym c.as_slice-members.ensures) c.read_appended.ensures

pub read_structure-returns-in-Mutable : goal.read_structure-returns-in-Mutable
read_structure-returns-in-Mutable g t c = struct_inside c.args.mode c.args.kind.now Mutable c.as_slice-members.result.now c.in-Mutable.is (sym c.as_slice-members.ensures) c.read_pieces.ensures

pub read_union-returns-in-Final : goal.read_union-returns-in-Final
read_union-returns-in-Final g t c = union_is_inside c.args.mode c.args.kind.now Final c.in-Final.is c.read_selected.ensures

pub read_union-returns-in-Appendable : goal.read_union-returns-in-Appendable
read_union-returns-in-Appendable g t c = union_is_inside c.args.mode c.args.kind.now Appendable c.in-Appendable.is (rw c.may_end.ensures at c.read_selected-in-Appendable.ensures)

pub read_union-returns-in-Mutable : goal.read_union-returns-in-Mutable
read_union-returns-in-Mutable g t c =
    let a = g.C.Cursor.state c.args.cursor.now in
    let st = g.met.C.Cursor.stands c.args.cursor.now in
    rw c.short.ensures (union_is_inside c.args.mode c.args.kind.now Mutable c.in-Mutable.is (malformed part_of (λ s. s.at) why.Short (begins (λ o s. fault_at s.at why.Short) _ a (λ s. refl)) (λ xs. omega (arith, c.place.ensures, st.from_origin))))

-- ---- an element at an index is smaller than the list that has it

pub read_case-read_body-requires : goal.read_case-read_body-requires
read_case-read_body-requires g t c =
    let within = c.in-Case.ensures.within in
    let fine = rw (← c.index-cases-at.is) at (sound_case c.args.cases.now c.in-Case.at c.index-cases-at.result within c.requires.sound) in
    let smaller = rw (← c.index-cases-at.is) at (at_most case_laws.the_size c.args.cases.now c.in-Case.at c.index-cases-at.result within) in
    let guided = case_guided c.args.cases.now c.args.guide.now c.part.result.now c.in-Case.at c.index-cases-at.result c.index-cases-at.is within c.requires.guide c.part.ensures in
    search rules

pub read_piece-read_member-requires : goal.read_piece-read_member-requires
read_piece-read_member-requires g t c =
    let within = rw c.in-Some.is at c.in_ok-place.ensures.within in
    let fine = sound_item c.args.members.now c.in-Some.at c.index-members-at.result c.requires.sound within in
    let smaller = at_most member_laws.the_size c.args.members.now c.in-Some.at c.index-members-at.result within in
    let guided = member_guided c.args.members.now c.args.guide.now c.part.result.now c.in-Some.at c.index-members-at.result c.index-members-at.is within c.requires.guide c.part.ensures in
    search rules

pub read_members-read_slot-requires : goal.read_members-read_slot-requires
read_members-read_slot-requires g t c =
    let within = c.loop-at-test.true in
    let fine = sound_item c.args.members.now c.loop-at.at c.index-members-at.result c.requires.sound within in
    let smaller = at_most member_laws.the_size c.args.members.now c.loop-at.at c.index-members-at.result within in
    let guided = member_guided c.args.members.now c.args.guide.now c.part.result.now c.loop-at.at c.index-members-at.result c.index-members-at.is within c.requires.guide c.part.ensures in
    search rules
