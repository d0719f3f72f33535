use Rattle.std.proofs.Common.{rules}
use Rattle.idl_types.specs.Views.{state}
use Rattle.idl_types.proofs.Wholes.{whole_prim, whole_str}
use Rattle.idl_types.proofs.TypeSteps.{plain_begins}
use Rattle.idl_types.proofs.types.plain_type.Goals as goal

pub returns-in-Plain-Simple : goal.returns-in-Plain-Simple
returns-in-Plain-Simple c =
    let w = whole_prim (state c.args.reader.now).types c.in-Plain-Simple.kind in
    let b = plain_begins (state c.args.reader.now) c.args.keyword c.args.tokens.now in
    search (rules, w, b)

pub returns-in_ok-long_type-in-Plain-Long : goal.returns-in_ok-long_type-in-Plain-Long
returns-in_ok-long_type-in-Plain-Long c =
    let w = whole_prim (state c.args.reader.now).types c.in_ok-long_type-in-Plain-Long.field-0 in
    let b = plain_begins (state c.args.reader.now) c.args.keyword c.args.tokens.now in
    search (rules, w, b)

pub returns-in_ok-unsigned_type-in-Plain-Unsigned : goal.returns-in_ok-unsigned_type-in-Plain-Unsigned
returns-in_ok-unsigned_type-in-Plain-Unsigned c =
    let w = whole_prim (state c.args.reader.now).types c.in_ok-unsigned_type-in-Plain-Unsigned.field-0 in
    let b = plain_begins (state c.args.reader.now) c.args.keyword c.args.tokens.now in
    search (rules, w, b)

pub returns-in_ok-string_type-in-Plain-Str : goal.returns-in_ok-string_type-in-Plain-Str
returns-in_ok-string_type-in-Plain-Str c =
    let w = whole_str (state c.args.reader.now).types c.in_ok-string_type-in-Plain-Str.field-0 in
    let b = plain_begins (state c.args.reader.now) c.args.keyword c.args.tokens.now in
    search (rules, w, b)
