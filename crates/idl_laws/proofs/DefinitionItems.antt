-- Each kind of definition, with its annotations, is an item.
use Rattle.std.proofs.Common.{◌≡◌, refl, sym, ◌∙◌, ap, subst, true≢false, ℕ, ◌<◌, Bool, true, false, min, nat_le, List, [], ◌∷◌, ◌++◌, drop, length, Option, Some, None, append_assoc, append-nil, length-append, arith, tests}
use Rattle.std.proofs.lemmas.Bool.{and_parts}
use Rattle.std.specs.Prelude.{codes, decimal, nat_lt}
use Rattle.xt_shapes.specs.declared.leaves.Ext.{Ext}
use Rattle.xt_shapes.specs.Lists.{all}
use Rattle.type_trees.specs.declared.types.Literal.{Literal}
use Rattle.type_trees.specs.declared.types.Flag.{Flag}
use Rattle.type_trees.specs.Trees.{Tree, prim, str, enumeration, bitmask, sequence, array, map_of, structure, union, alias, StructHead, UnionHead, Members, Cases}
use Rattle.type_rules.specs.Valid.{type_fault}
use Rattle.type_rules.proofs.Kept.{limits_kept}
use Rattle.type_rules.proofs.FaultSteps.{inside_alias}
use Rattle.xt_annotations.specs.declared.notes.Note.{Note}
use Rattle.xt_annotations.specs.declared.notes.Note.TheVariants as note
use Rattle.xt_annotations.specs.declared.notes.Placed.{Placed}
use Rattle.xt_annotations.specs.Places.{same_setting}
use Rattle.idl_tokens.specs.declared.tokens.TokenKind.TheVariants.{Word, Mark}
use Rattle.idl_tokens.specs.Classes.{Text}
use Rattle.idl_tokens.specs.Tokens.{skip}
use Rattle.idl_input.specs.Words.{keyword}
use Rattle.idl_types.specs.State.{State, with_type}
use Rattle.idl_types.specs.Names.{innermost}
use Rattle.idl_definitions.specs.declared.settings.Settings.{Settings}
use Rattle.idl_definitions.specs.Notes.{settings, without_notes}
use Rattle.idl_definitions.specs.Structures.{struct_def, typedef_def}
use Rattle.idl_definitions.specs.Numbered.{enum_def, bitmask_def}
use Rattle.idl_definitions.specs.Unions.{union_def}
use Rattle.idl_printer.specs.Words.{ext_text, text_if}
use Rattle.idl_printer.specs.Uses.{type_text, declarator_text}
use Rattle.idl_printer.specs.Parts.{literals_text, flags_text, members_text, cases_text}
use Rattle.idl_printer.specs.Lines.{bits_text, aggregate_notes, base_text, last_base, struct_head, own_members, struct_text, union_head, union_text, opened, enum_text, mask_text, alias_text, definition_text}
use Rattle.xt_idl.specs.Leading.{site_of}
use Rattle.xt_idl.specs.Whole.{definition_or_module, definition_by, typed}
use Rattle.idl_laws.specs.Printable.{IsDefinition, IsTyped, literal_fits, is_spelled}
use Rattle.type_rules.proofs.OfFaultless.Nodes.{at_and_below, no_fault}
use Rattle.idl_laws.proofs.Fronts.{Front, front_at, skip_blank, skip_short, skip_solid, word_front, mark_front}
use Rattle.idl_laws.proofs.Steps.{Reads, not_seen}
use Rattle.idl_laws.proofs.NoteTexts.{is_told, note_text, notes_text, notes_of}
use Rattle.idl_laws.proofs.NoteReads.{note_body, note_text_is}
use Rattle.idl_laws.proofs.Notes.{fit, said_from, settings_are}
use Rattle.idl_laws.proofs.Items.{Runs, runs_item}
use Rattle.idl_laws.proofs.Scopes.{Knows}
use Rattle.idl_laws.proofs.Members.{noted_if}
use Rattle.idl_laws.proofs.Definitions.{IsNewType, typedef_text, typedef_read}
use Rattle.idl_laws.proofs.Numberings.{enum_body, mask_body, enum_read, mask_read}
use Rattle.idl_laws.proofs.Structures.{own_of, struct_body, struct_read}
use Rattle.idl_laws.proofs.Unions.{union_body, union_read}
use Rattle.idl_laws.proofs.Texts.{typed_read, item_read}
use Rattle.idl_laws.proofs.Premises.{dims_kept, structure_holds, union_holds, enumeration_holds, bitmask_holds}

-- ---- an item that begins with an annotation

abbrev notes_told : List Note → Bool
notes_told notes = all is_told notes

note_first : (n : Note) (ns : List Note) (rest : Text) → is_told n ≡ true → notes_text (n ∷ ns) ++ rest ≡ 64 ∷ drop 1 (notes_text (n ∷ ns) ++ rest)
note_first n ns rest told =
    let is : note_text n ++ notes_text ns ++ rest ≡ 64 ∷ (note_body n ++ 32 ∷ [] ++ notes_text ns ++ rest) = ap (λ (t : Text). t ++ notes_text ns ++ rest) (note_text_is n told) in
    is ∙ ap (λ (t : Text). 64 ∷ drop 1 t) (sym is)

-- what is left of it is shorter
noted_shorter : (ns : List Note) (text body rest : Text) → skip text ≡ skip (notes_text ns ++ body) → notes_text ns ++ body ≡ 64 ∷ drop 1 (notes_text ns ++ body) → length rest < length body → length (skip rest) < length (skip text)
noted_shorter ns text body rest begins first shorter =
    let whole = notes_text ns ++ body in
    let kept : skip whole ≡ whole = ap skip first ∙ skip_solid 64 (drop 1 whole) refl ∙ sym first in
    omega (arith, ap length begins, ap length kept, length-append (notes_text ns) body, skip_short rest)

-- a definition behind its annotations
noted_runs : (s new : State) (w : Text) (n : Note) (ns : List Note) (text body more rest : Text) → skip text ≡ skip (notes_text (n ∷ ns) ++ body) → Front Word w body more → all is_told (n ∷ ns) ≡ true → fit (site_of (keyword w)) (n ∷ ns) ≡ true
    → length rest < length body
    → ((placed : List Placed) → definition_or_module s placed (keyword w) ≡ typed s placed)
    → ((placed : List Placed) → notes_of placed ≡ n ∷ ns → Reads (typed s placed) (32 ∷ body) new rest)
    → Runs s text new rest
noted_runs s new w n ns text body more rest begins front told fits shorter is reads =
    let first = note_first n ns body (and_parts _ _ told).0 in
    let mark : Front Mark (64 ∷ []) text (drop 1 (notes_text (n ∷ ns) ++ body)) = front_at text (begins ∙ ap skip first) (mark_front 64 (drop 1 (notes_text (n ∷ ns) ++ body)) refl) in
    runs_item mark refl (noted_shorter (n ∷ ns) text body rest begins first shorter) (item_read s new w (n ∷ ns) text body more rest begins front told fits (not_seen (codes "}") mark refl) is reads)

-- ---- structures

-- the notes of a structure or union
abbrev aggregate_said : Ext → Bool → Bool → List Note
aggregate_said ext nested hashed = note.Ext ext ∷ (noted_if nested (note.Nested true) ++ noted_if hashed (note.Autoid true))

aggregate_told : (ext : Ext) (nested hashed : Bool) → all is_told (aggregate_said ext nested hashed) ≡ true
aggregate_told ext true true = refl
aggregate_told ext true false = refl
aggregate_told ext false true = refl
aggregate_told ext false false = refl

struct_fit : (ext : Ext) (nested hashed : Bool) → fit (site_of (keyword (codes "struct"))) (aggregate_said ext nested hashed) ≡ true
unfolding keyword same_setting
struct_fit ext true true = refl
struct_fit ext true false = refl
struct_fit ext false true = refl
struct_fit ext false false = refl

union_fit : (ext : Ext) (nested hashed : Bool) → fit (site_of (keyword (codes "union"))) (aggregate_said ext nested hashed) ≡ true
unfolding keyword same_setting
union_fit ext true true = refl
union_fit ext true false = refl
union_fit ext false true = refl
union_fit ext false false = refl

abbrev aggregate_settings : Ext → Bool → Bool → Settings
aggregate_settings ext nested hashed = record without_notes { ext = ext; nested = nested; hashed = hashed }

aggregate_given : (ext : Ext) (nested hashed : Bool) → said_from (aggregate_said ext nested hashed) without_notes ≡ aggregate_settings ext nested hashed
aggregate_given ext true true = refl
aggregate_given ext true false = refl
aggregate_given ext false true = refl
aggregate_given ext false false = refl

aggregate_set : (ext : Ext) (nested hashed : Bool) (placed : List Placed) → notes_of placed ≡ aggregate_said ext nested hashed → settings placed ≡ aggregate_settings ext nested hashed
aggregate_set ext nested hashed placed are = settings_are placed ∙ ap (λ ns. said_from ns without_notes) are ∙ aggregate_given ext nested hashed

aggregate_text : (ext : Ext) (nested hashed : Bool) → aggregate_notes ext nested hashed ≡ notes_text (aggregate_said ext nested hashed)
unfolding aggregate_notes
aggregate_text ext true true = simp append_assoc
aggregate_text ext true false = simp (append_assoc, append-nil)
aggregate_text ext false true = simp append-nil
aggregate_text ext false false = simp append-nil

struct_behind : (a name base own rest : Text) → a ++ (codes "struct " ++ name ++ codes " " ++ base ++ codes "{ ") ++ own ++ codes "};" ++ rest ≡ a ++ (codes "struct" ++ (32 ∷ (name ++ (32 ∷ (base ++ (123 ∷ 32 ∷ (own ++ (125 ∷ 59 ∷ rest))))))))
struct_behind a name base own rest = simp append_assoc

struct_parts : (head : StructHead) (ms : Members) (name rest : Text) → struct_text head ms name ++ rest ≡ notes_text (aggregate_said head.ext head.nested head.hashed_ids) ++ struct_body name head.bases (own_of head.bases ms) rest
unfolding struct_text struct_head own_members
struct_parts head ms name rest =
    let own = members_text (own_of head.bases ms) in
    struct_behind (aggregate_notes head.ext head.nested head.hashed_ids) name (base_text (last_base head.bases)) own rest
    ∙ ap (λ (t : Text). t ++ struct_body name head.bases (own_of head.bases ms) rest) (aggregate_text head.ext head.nested head.hashed_ids)

-- what stands before the rest has octets
struct_longer : (name : Text) (head : StructHead) (own : Members) (rest : Text) → length rest < length (struct_body name head.bases own rest)
struct_longer name head own rest =
    let inside = members_text own ++ (125 ∷ 59 ∷ rest) in
    let base = base_text (last_base head.bases) in
    omega (arith, length-append name (32 ∷ (base ++ (123 ∷ 32 ∷ inside))), length-append base (123 ∷ 32 ∷ inside), length-append (members_text own) (125 ∷ 59 ∷ rest))

struct_item : (s : State) (placed : List Placed) → definition_or_module s placed (keyword (codes "struct")) ≡ typed s placed
unfolding keyword
struct_item s placed = refl

struct_by : (s : State) (placed : List Placed) → definition_by s placed (keyword (codes "struct")) ≡ struct_def s (settings placed)
unfolding keyword
struct_by s placed = refl

structure_runs : (s : State) → Knows s → (last full : Text) → IsNewType s last full → (head : StructHead) (ms : Members) → type_fault (structure head ms) ≡ None → IsDefinition s.types full (structure head ms)
    → (text rest : Text) → skip text ≡ skip (struct_text head ms last ++ rest) → Runs s text (with_type (innermost s.opened) last full (structure head ms) s) rest
structure_runs s knows last full new head ms valid is text rest begins =
    let holds = structure_holds s head ms valid is.1.1 in
    let said = aggregate_said head.ext head.nested head.hashed_ids in
    let own = own_of head.bases ms in
    let body = struct_body last head.bases own rest in
    let more = drop 6 body in
    let there = begins ∙ ap skip (struct_parts head ms last rest) in
    let front : Front Word (codes "struct") body more = word_front (codes "struct") more refl refl in
    noted_runs s (with_type (innermost s.opened) last full (structure head ms) s) (codes "struct") (note.Ext head.ext) (noted_if head.nested (note.Nested true) ++ noted_if head.hashed_ids (note.Autoid true)) text body more rest there front
    (aggregate_told head.ext head.nested head.hashed_ids) (struct_fit head.ext head.nested head.hashed_ids) (struct_longer last head own rest) (struct_item s)
    (λ placed are.
    let set = aggregate_set head.ext head.nested head.hashed_ids placed are in
    typed_read s placed (codes "struct") (struct_def s (settings placed)) last full (structure head ms) (32 ∷ body) more rest (front_at (32 ∷ body) (skip_blank body) front) (struct_by s placed) valid
    (struct_read s knows (settings placed) last full new head ms head.bases refl (ap (λ x. x.ext) set) (ap (λ x. x.nested) set) (ap (λ x. x.hashed) set) is.0 is.1.0 holds.counts holds.members holds.some (32 ∷ body) rest (skip_blank body)))

-- ---- unions

switch_behind : (a name key disc cases rest : Text) → a ++ (codes "union " ++ name ++ codes " switch (" ++ key ++ disc ++ codes ") { ") ++ cases ++ codes "};" ++ rest
    ≡ a ++ (codes "union" ++ (32 ∷ (name ++ (32 ∷ (codes "switch" ++ (32 ∷ 40 ∷ (key ++ (disc ++ (41 ∷ 32 ∷ 123 ∷ 32 ∷ (cases ++ (125 ∷ 59 ∷ rest)))))))))))
switch_behind a name key disc cases rest = simp append_assoc

union_parts : (head : UnionHead) (disc : Tree) (cs : Cases) (name rest : Text) → union_text head disc cs name ++ rest ≡ notes_text (aggregate_said head.ext head.nested head.hashed_ids) ++ union_body name head.disc_key disc cs rest
unfolding union_text union_head
union_parts head disc cs name rest =
    switch_behind (aggregate_notes head.ext head.nested head.hashed_ids) name (text_if head.disc_key (codes "@key ")) (type_text disc) (cases_text disc cs) rest
    ∙ ap (λ (t : Text). t ++ union_body name head.disc_key disc cs rest) (aggregate_text head.ext head.nested head.hashed_ids)

union_longer : (name : Text) (key : Bool) (disc : Tree) (cs : Cases) (rest : Text) → length rest < length (union_body name key disc cs rest)
union_longer name key disc cs rest =
    let cases = 41 ∷ 32 ∷ 123 ∷ 32 ∷ (cases_text disc cs ++ (125 ∷ 59 ∷ rest)) in
    let noted = text_if key (codes "@key ") in
    omega (arith, length-append name (32 ∷ (codes "switch" ++ (32 ∷ 40 ∷ (noted ++ (type_text disc ++ cases))))), length-append noted (type_text disc ++ cases), length-append (type_text disc) cases, length-append (cases_text disc cs) (125 ∷ 59 ∷ rest))

union_item : (s : State) (placed : List Placed) → definition_or_module s placed (keyword (codes "union")) ≡ typed s placed
unfolding keyword
union_item s placed = refl

union_by : (s : State) (placed : List Placed) → definition_by s placed (keyword (codes "union")) ≡ union_def s (settings placed)
unfolding keyword
union_by s placed = refl

union_runs : (s : State) → Knows s → (last full : Text) → IsNewType s last full → (head : UnionHead) (disc : Tree) (cs : Cases) → type_fault (union head disc cs) ≡ None → IsDefinition s.types full (union head disc cs)
    → (text rest : Text) → skip text ≡ skip (union_text head disc cs last ++ rest) → Runs s text (with_type (innermost s.opened) last full (union head disc cs) s) rest
union_runs s knows last full new head disc cs valid is text rest begins =
    let holds = union_holds s head disc cs valid is.1.1 in
    let body = union_body last head.disc_key disc cs rest in
    let more = drop 5 body in
    let there = begins ∙ ap skip (union_parts head disc cs last rest) in
    let front : Front Word (codes "union") body more = word_front (codes "union") more refl refl in
    noted_runs s (with_type (innermost s.opened) last full (union head disc cs) s) (codes "union") (note.Ext head.ext) (noted_if head.nested (note.Nested true) ++ noted_if head.hashed_ids (note.Autoid true)) text body more rest there front
    (aggregate_told head.ext head.nested head.hashed_ids) (union_fit head.ext head.nested head.hashed_ids) (union_longer last head.disc_key disc cs rest) (union_item s)
    (λ placed are.
    let set = aggregate_set head.ext head.nested head.hashed_ids placed are in
    typed_read s placed (codes "union") (union_def s (settings placed)) last full (union head disc cs) (32 ∷ body) more rest (front_at (32 ∷ body) (skip_blank body) front) (union_by s placed) valid
    (union_read s knows (settings placed) last full new head disc cs (ap (λ x. x.ext) set) (ap (λ x. x.nested) set) (ap (λ x. x.hashed) set) is.0 holds.low is.1.0 holds.cases holds.some (32 ∷ body) rest (skip_blank body)))

-- ---- typedefs

alias_item : (s : State) (placed : List Placed) → definition_or_module s placed (keyword (codes "typedef")) ≡ typed s placed
unfolding keyword
alias_item s placed = refl

alias_by : (s : State) (placed : List Placed) → definition_by s placed (keyword (codes "typedef")) ≡ typedef_def s
unfolding keyword
alias_by s placed = refl

alias_fit : fit (site_of (keyword (codes "typedef"))) [] ≡ true
unfolding keyword
alias_fit = refl

alias_runs : (s : State) → Knows s → (last full : Text) → IsNewType s last full → (t : Tree) → type_fault (alias (Some full) t) ≡ None → IsTyped s.types t
    → (text rest : Text) → skip text ≡ skip (alias_text t last ++ rest) → Runs s text (with_type (innermost s.opened) last full (alias (Some full) t) s) rest
alias_runs s knows last full new t valid typed_as text rest begins =
    let limits = limits_kept (alias (Some full) t) valid in
    let below = sym (inside_alias (Some full) t) ∙ (at_and_below (alias (Some full) t) (no_fault (alias (Some full) t) valid)).1 in
    let body = codes "typedef" ++ (32 ∷ (declarator_text t last ++ 59 ∷ rest)) in
    let more = drop 7 body in
    let there = begins ∙ ap skip (typedef_text t last rest) in
    let word : Front Word (codes "typedef") body more = word_front (codes "typedef") more refl refl in
    let front : Front Word (codes "typedef") text more = front_at text there word in
    let kept : skip body ≡ body = skip_solid 116 (drop 1 body) refl in
    runs_item front refl (omega (arith, ap length there, ap length kept, length-append (declarator_text t last) (59 ∷ rest), skip_short rest))
    (item_read s (with_type (innermost s.opened) last full (alias (Some full) t) s) (codes "typedef") [] text body more rest there word refl alias_fit (not_seen (codes "}") front refl) (alias_item s)
    (λ placed are. typed_read s placed (codes "typedef") (typedef_def s) last full (alias (Some full) t) text more rest front (alias_by s placed) valid (typedef_read s knows last full new t (omega (arith, limits.0)) (dims_kept t below) typed_as text rest begins)))

-- ---- enumerations and bitmasks

abbrev enum_said : Ext → ℕ → List Note
enum_said ext bits = note.Ext ext ∷ note.BitBound bits ∷ []

narrow_enough : (bits : ℕ) → nat_le bits 32 ≡ true → nat_le bits 64 ≡ true
narrow_enough bits narrow = grind (arith, tests)

enum_told : (ext : Ext) (bits : ℕ) → nat_le 1 bits ≡ true → nat_le bits 32 ≡ true → all is_told (enum_said ext bits) ≡ true
enum_told ext bits wide narrow = rw (wide, narrow_enough bits narrow) refl

enum_fit : (ext : Ext) (bits : ℕ) → nat_le bits 32 ≡ true → fit (site_of (keyword (codes "enum"))) (enum_said ext bits) ≡ true
unfolding keyword same_setting
enum_fit ext bits narrow = let low : nat_lt 32 bits ≡ false = grind (arith, tests) in rw low refl

least : (bits : ℕ) → nat_le bits 64 ≡ true → min bits 255 ≡ bits
least bits narrow = grind (arith, tests)

enum_bits : (ext : Ext) (bits : ℕ) (placed : List Placed) → notes_of placed ≡ enum_said ext bits → nat_le bits 64 ≡ true → (settings placed).bits ≡ bits
enum_bits ext bits placed are narrow = ap (λ x. x.bits) (settings_are placed ∙ ap (λ ns. said_from ns without_notes) are) ∙ least bits narrow

enum_ext : (ext : Ext) (bits : ℕ) (placed : List Placed) → notes_of placed ≡ enum_said ext bits → (settings placed).ext ≡ ext
enum_ext ext bits placed are = ap (λ x. x.ext) (settings_are placed ∙ ap (λ ns. said_from ns without_notes) are)

enum_behind : (a n name literals rest : Text) → a ++ n ++ (codes "enum " ++ name ++ codes " { ") ++ literals ++ codes " };" ++ rest ≡ (a ++ (n ++ [])) ++ (codes "enum" ++ (32 ∷ (name ++ (32 ∷ 123 ∷ 32 ∷ (literals ++ (32 ∷ 125 ∷ 59 ∷ rest))))))
enum_behind a n name literals rest = simp (append_assoc, append-nil)

enum_parts : (ext : Ext) (bits : ℕ) (ls : List Literal) (name rest : Text) → enum_text ext bits ls name ++ rest ≡ notes_text (enum_said ext bits) ++ enum_body name ls rest
unfolding enum_text bits_text opened
enum_parts ext bits ls name rest = enum_behind (ext_text ext) (codes "@bit_bound(" ++ decimal bits ++ codes ") ") name (literals_text ls) rest

braced_longer : (name inside rest : Text) → length rest < length (name ++ (32 ∷ 123 ∷ 32 ∷ (inside ++ (32 ∷ 125 ∷ 59 ∷ rest))))
braced_longer name inside rest = omega (arith, length-append name (32 ∷ 123 ∷ 32 ∷ (inside ++ (32 ∷ 125 ∷ 59 ∷ rest))), length-append inside (32 ∷ 125 ∷ 59 ∷ rest))

enum_longer : (name : Text) (ls : List Literal) (rest : Text) → length rest < length (enum_body name ls rest)
enum_longer name ls rest = omega (arith, braced_longer name (literals_text ls) rest)

enum_item : (s : State) (placed : List Placed) → definition_or_module s placed (keyword (codes "enum")) ≡ typed s placed
unfolding keyword
enum_item s placed = refl

enum_by : (s : State) (placed : List Placed) → definition_by s placed (keyword (codes "enum")) ≡ enum_def s (settings placed)
unfolding keyword
enum_by s placed = refl

enumeration_runs : (s : State) (last full : Text) → IsNewType s last full → (ext : Ext) (bits : ℕ) (ls : List Literal) → type_fault (enumeration (Some full) ext bits ls) ≡ None → all literal_fits ls ≡ true
    → (text rest : Text) → skip text ≡ skip (enum_text ext bits ls last ++ rest) → Runs s text (with_type (innermost s.opened) last full (enumeration (Some full) ext bits ls) s) rest
enumeration_runs s last full new ext bits [] valid fits text rest begins = absurd (true≢false (sym (enumeration_holds (Some full) ext bits [] valid fits).some))
enumeration_runs s last full new ext bits (l ∷ ls) valid fits text rest begins =
    let holds = enumeration_holds (Some full) ext bits (l ∷ ls) valid fits in
    let body = enum_body last (l ∷ ls) rest in
    let more = drop 4 body in
    let there = begins ∙ ap skip (enum_parts ext bits (l ∷ ls) last rest) in
    let front : Front Word (codes "enum") body more = word_front (codes "enum") more refl refl in
    let low : nat_le bits 64 ≡ true = narrow_enough bits holds.narrow in
    noted_runs s (with_type (innermost s.opened) last full (enumeration (Some full) ext bits (l ∷ ls)) s) (codes "enum") (note.Ext ext) (note.BitBound bits ∷ []) text body more rest there front
    (enum_told ext bits holds.wide holds.narrow) (enum_fit ext bits holds.narrow) (enum_longer last (l ∷ ls) rest) (enum_item s)
    (λ placed are. typed_read s placed (codes "enum") (enum_def s (settings placed)) last full (enumeration (Some full) ext bits (l ∷ ls)) (32 ∷ body) more rest (front_at (32 ∷ body) (skip_blank body) front) (enum_by s placed) valid
    (enum_read s (settings placed) last full new ext bits l ls (enum_ext ext bits placed are) (enum_bits ext bits placed are low) holds.literals (32 ∷ body) rest (skip_blank body)))

abbrev mask_said : ℕ → List Note
mask_said bits = note.BitBound bits ∷ []

mask_told : (bits : ℕ) → nat_le 1 bits ≡ true → nat_le bits 64 ≡ true → all is_told (mask_said bits) ≡ true
mask_told bits wide narrow = rw (wide, narrow) refl

mask_fit : (bits : ℕ) → fit (site_of (keyword (codes "bitmask"))) (mask_said bits) ≡ true
unfolding keyword same_setting
mask_fit bits = refl

mask_bits : (bits : ℕ) (placed : List Placed) → notes_of placed ≡ mask_said bits → nat_le bits 64 ≡ true → (settings placed).bits ≡ bits
mask_bits bits placed are narrow = ap (λ x. x.bits) (settings_are placed ∙ ap (λ ns. said_from ns without_notes) are) ∙ least bits narrow

mask_behind : (n name flags rest : Text) → n ++ (codes "bitmask " ++ name ++ codes " { ") ++ flags ++ codes " };" ++ rest ≡ (n ++ []) ++ (codes "bitmask" ++ (32 ∷ (name ++ (32 ∷ 123 ∷ 32 ∷ (flags ++ (32 ∷ 125 ∷ 59 ∷ rest))))))
mask_behind n name flags rest = simp (append_assoc, append-nil)

mask_parts : (bits : ℕ) (fs : List Flag) (name rest : Text) → mask_text bits fs name ++ rest ≡ notes_text (mask_said bits) ++ mask_body name fs rest
unfolding mask_text bits_text opened
mask_parts bits fs name rest = mask_behind (codes "@bit_bound(" ++ decimal bits ++ codes ") ") name (flags_text fs) rest

mask_longer : (name : Text) (fs : List Flag) (rest : Text) → length rest < length (mask_body name fs rest)
mask_longer name fs rest = omega (arith, braced_longer name (flags_text fs) rest)

mask_item : (s : State) (placed : List Placed) → definition_or_module s placed (keyword (codes "bitmask")) ≡ typed s placed
unfolding keyword
mask_item s placed = refl

mask_by : (s : State) (placed : List Placed) → definition_by s placed (keyword (codes "bitmask")) ≡ bitmask_def s (settings placed)
unfolding keyword
mask_by s placed = refl

bitmask_runs : (s : State) (last full : Text) → IsNewType s last full → (bits : ℕ) (fs : List Flag) → type_fault (bitmask (Some full) bits fs) ≡ None → all (λ f. is_spelled f.name) fs ≡ true
    → (text rest : Text) → skip text ≡ skip (mask_text bits fs last ++ rest) → Runs s text (with_type (innermost s.opened) last full (bitmask (Some full) bits fs) s) rest
bitmask_runs s last full new bits [] valid spelled text rest begins = absurd (true≢false (sym (bitmask_holds (Some full) bits [] valid spelled).some))
bitmask_runs s last full new bits (f ∷ fs) valid spelled text rest begins =
    let holds = bitmask_holds (Some full) bits (f ∷ fs) valid spelled in
    let body = mask_body last (f ∷ fs) rest in
    let more = drop 7 body in
    let there = begins ∙ ap skip (mask_parts bits (f ∷ fs) last rest) in
    let front : Front Word (codes "bitmask") body more = word_front (codes "bitmask") more refl refl in
    noted_runs s (with_type (innermost s.opened) last full (bitmask (Some full) bits (f ∷ fs)) s) (codes "bitmask") (note.BitBound bits) [] text body more rest there front
    (mask_told bits holds.wide holds.narrow) (mask_fit bits) (mask_longer last (f ∷ fs) rest) (mask_item s)
    (λ placed are. typed_read s placed (codes "bitmask") (bitmask_def s (settings placed)) last full (bitmask (Some full) bits (f ∷ fs)) (32 ∷ body) more rest (front_at (32 ∷ body) (skip_blank body) front) (mask_by s placed) valid
    (mask_read s (settings placed) last full new bits f fs (mask_bits bits placed are holds.narrow) holds.flags (32 ∷ body) rest (skip_blank body)))

-- ---- any definition

named_as : (name : Option Text) (full : Text) (P : Option Text → Type 0) → name ≡ Some full → P (Some full) → P name
named_as name full P is holds = subst P (sym is) holds

abbrev RunsTo : State → Text → Text → Text → Text → Tree → Type 0
RunsTo s last full text rest t = Runs s text (with_type (innermost s.opened) last full t s) rest

pub definition_runs : (s : State) → Knows s → (last full : Text) → IsNewType s last full → (t : Tree) → type_fault t ≡ None → IsDefinition s.types full t → (text rest : Text) → skip text ≡ skip (definition_text t last ++ rest) → RunsTo s last full text rest t
definition_runs s knows last full new (structure head ms) valid is text rest begins = structure_runs s knows last full new head ms valid is text rest begins
definition_runs s knows last full new (union head disc cs) valid is text rest begins = union_runs s knows last full new head disc cs valid is text rest begins
definition_runs s knows last full new (enumeration name ext bits ls) valid is text rest begins =
    let there = subst (λ n. type_fault (enumeration n ext bits ls) ≡ None) is.0 valid in
    named_as name full (λ n. RunsTo s last full text rest (enumeration n ext bits ls)) is.0 (enumeration_runs s last full new ext bits ls there is.1 text rest begins)
definition_runs s knows last full new (bitmask name bits fs) valid is text rest begins =
    let there = subst (λ n. type_fault (bitmask n bits fs) ≡ None) is.0 valid in
    named_as name full (λ n. RunsTo s last full text rest (bitmask n bits fs)) is.0 (bitmask_runs s last full new bits fs there is.1 text rest begins)
definition_runs s knows last full new (alias name t) valid is text rest begins =
    let there = subst (λ n. type_fault (alias n t) ≡ None) is.0 valid in
    named_as name full (λ n. RunsTo s last full text rest (alias n t)) is.0 (alias_runs s knows last full new t there is.1 text rest begins)
definition_runs s knows last full new (prim p) valid is text rest begins = absurd is
definition_runs s knows last full new (str n) valid is text rest begins = absurd is
definition_runs s knows last full new (sequence n tc t) valid is text rest begins = absurd is
definition_runs s knows last full new (array ds tc t) valid is text rest begins = absurd is
definition_runs s knows last full new (map_of n kc k vc v) valid is text rest begins = absurd is
