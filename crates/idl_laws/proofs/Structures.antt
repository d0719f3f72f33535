-- Structures are read as they are printed.
use Rattle.std.proofs.Common.{◌≡◌, refl, sym, ◌∙◌, ap, subst, ℕ, ◌≤◌, true, false, List, [], ◌∷◌, ◌++◌, Option, Some, None, Ok, append_assoc}
use Rattle.std.specs.Prelude.{codes}
use Rattle.type_trees.specs.declared.types.Base.{Base}
use Rattle.type_trees.specs.Bases.{take_members, split_last, head_of, base_from}
use Rattle.type_trees.specs.Trees.{Tree, structure, StructHead, Members}
use Rattle.idl_tokens.specs.declared.tokens.TokenKind.TheVariants.{Word, Mark}
use Rattle.idl_tokens.specs.Classes.{Text}
use Rattle.idl_tokens.specs.Tokens.{skip}
use Rattle.idl_tokens.specs.Tokens as tokens
use Rattle.idl_input.specs.Input.{place, sees}
use Rattle.idl_types.specs.State.{State}
use Rattle.idl_types.specs.Names.{type_by_name}
use Rattle.idl_types.specs.Definitions.{listed}
use Rattle.idl_definitions.specs.declared.settings.Settings.{Settings}
use Rattle.idl_definitions.specs.Structures.{Heritage, base_clause, in_profile, struct_def}
use Rattle.idl_printer.specs.Uses.{reference_text}
use Rattle.idl_printer.specs.Parts.{members_text, members_behind}
use Rattle.idl_printer.specs.Lines.{last_base, base_text, count_of}
use Rattle.idl_laws.specs.Printable.{IsNamed, IsOnBase}
use Rattle.idl_laws.proofs.Fronts.{Front, front_at, skip_blank, mark_front, colon_front}
use Rattle.idl_laws.proofs.Steps.{at, Reads, next_is, sees_is, sees_not, after_if_is, after_if_not, want_is, not_seen}
use Rattle.idl_laws.proofs.Names.{EndsName}
use Rattle.idl_laws.proofs.Scopes.{Knows}
use Rattle.idl_laws.proofs.Ahead.{word_at, mark_at, sees_blank}
use Rattle.idl_laws.proofs.Bases.{count, heritage_is, last_is, members_listed, split_members}
use Rattle.idl_laws.proofs.Members.{AreMembers, some_members, members_read}
use Rattle.type_trees.specs.View.{members_of}
use Rattle.idl_laws.proofs.Definitions.{IsNewType, ReadsMade, new_type_read}

named_read : (s : State) → Knows s → (name : Option Text) (t : Tree) → IsNamed s.types name t → (text rest : Text) → skip text ≡ skip (reference_text name ++ rest) → EndsName rest → Reads (type_by_name s) text t rest
named_read s knows None t named text rest begins over = absurd named
named_read s knows (Some full) t named text rest begins over = knows full t named text rest begins over

-- ---- the base

abbrev base_left : List Base → Text → Text → Text
base_left [] text rest = text
base_left (b ∷ bs) text rest = 32 ∷ 123 ∷ rest

left_is_brace : (bs : List Base) (text rest : Text) → skip text ≡ skip (base_text (last_base bs) ++ (123 ∷ rest)) → skip (base_left bs text rest) ≡ skip (123 ∷ rest)
left_is_brace [] text rest begins = begins
left_is_brace (b ∷ bs) text rest begins = skip_blank (123 ∷ rest)

-- the count of the base's members is within the structure's
abbrev pub CountFits : List Base → Members → Type 0
CountFits [] ms = Unit {0}
CountFits (b ∷ bs) ms = ((split_last b bs).1.count ≤ count ms) × ((split_last b bs).1.count ≤ 4294967295)

abbrev from_base : List Base → Members → Heritage
from_base bs ms = record { fits = true; bases = bs; members = listed (take_members (count_of (last_base bs)) ms) }

base_read : (s : State) → Knows s → (head : StructHead) (ms : Members) (bs : List Base) → IsOnBase s.types (base_from bs head ms) → CountFits bs ms → (text rest : Text) → skip text ≡ skip (base_text (last_base bs) ++ (123 ∷ rest))
    → Reads (base_clause s head.ext) text (from_base bs ms) (base_left bs text rest)
unfolding base_clause
base_read s knows head ms [] on fits text rest begins size =
    let front : Front Mark (123 ∷ []) text rest = mark_at 123 begins refl in
    rw (sees_not (codes ":") front refl size, after_if_not (codes ":") front refl size) refl
base_read s knows head ms (b ∷ bs) on fits text rest begins size =
    let last = (split_last b bs).1 in
    let named = 32 ∷ (reference_text last.name ++ (32 ∷ 123 ∷ rest)) in
    let is : base_text (last_base (b ∷ bs)) ++ (123 ∷ rest) ≡ 58 ∷ named = rw (last_is b bs) (simp append_assoc) in
    let front : Front Mark (58 ∷ []) text named = front_at text (begins ∙ ap skip is) (colon_front named refl) in
    let over : EndsName (32 ∷ 123 ∷ rest) = record { over = refl; no_colons = not_seen (codes "::") (mark_at 123 {text = 32 ∷ 123 ∷ rest} (skip_blank (123 ∷ rest)) refl) refl } in
    let base = named_read s knows last.name (structure (head_of head (split_last b bs)) (take_members last.count ms)) on named (32 ∷ 123 ∷ rest) (skip_blank (reference_text last.name ++ (32 ∷ 123 ∷ rest))) over size in
    rw (sees_is front refl size, after_if_is front refl size, base, heritage_is head ms b bs fits.0 fits.1, last_is b bs) refl

-- ---- the structure

-- what is printed from the keyword on
abbrev pub struct_body : Text → List Base → Members → Text → Text
struct_body name bs own rest = codes "struct" ++ (32 ∷ (name ++ (32 ∷ (base_text (last_base bs) ++ (123 ∷ 32 ∷ (members_text own ++ (125 ∷ 59 ∷ rest)))))))

abbrev pub own_of : List Base → Members → Members
own_of bs ms = members_behind (count_of (last_base bs)) ms

-- a structure or what it stands on follows a name
base_or_brace : (bs : List Base) (rest : Text) → tokens.sees (codes ";") (base_text (last_base bs) ++ (123 ∷ rest)) ≡ false
base_or_brace [] rest = not_seen (codes ";") (mark_front 123 rest refl) refl
base_or_brace (b ∷ bs) rest =
    let named = 32 ∷ (reference_text (split_last b bs).1.name ++ (32 ∷ 123 ∷ rest)) in
    let is : base_text (last_base (b ∷ bs)) ++ (123 ∷ rest) ≡ 58 ∷ named = rw (last_is b bs) (simp append_assoc) in
    rw is (not_seen (codes ";") (colon_front named refl) refl)

pub struct_read : (s : State) → Knows s → (set : Settings) (last full : Text) → IsNewType s last full → (head : StructHead) (ms : Members) (bs : List Base)
    → head.bases ≡ bs → set.ext ≡ head.ext → set.nested ≡ head.nested → set.hashed ≡ head.hashed_ids → head.name ≡ Some full
    → IsOnBase s.types (base_from bs head ms) → CountFits bs ms → AreMembers s [] (own_of bs ms) → some_members (own_of bs ms) ≡ true
    → (text rest : Text) → skip text ≡ skip (struct_body last bs (own_of bs ms) rest) → (size : ℕ) → ReadsMade (struct_def s set) text last full (structure head ms) rest size
unfolding struct_def in_profile sees
struct_read s knows set last full new head ms bs bases set_ext set_nested set_hashed is_named on fits are some text rest begins size =
    let own = own_of bs ms in
    let inside = 32 ∷ (members_text own ++ (125 ∷ 59 ∷ rest)) in
    let after_name = 32 ∷ (base_text (last_base bs) ++ (123 ∷ inside)) in
    let named = 32 ∷ (last ++ after_name) in
    let front : Front Word (codes "struct") text named = word_at (codes "struct") text named begins refl refl in
    let name = new_type_read s last full new named after_name (skip_blank (last ++ after_name)) refl size in
    let no_end : tokens.sees (codes ";") after_name ≡ false = sees_blank (codes ";") (base_text (last_base bs) ++ (123 ∷ inside)) ∙ base_or_brace bs inside in
    let base : base_clause s set.ext (at after_name size) ≡ Ok (from_base bs ms, at (base_left bs after_name inside) size) = subst (λ e. base_clause s e (at after_name size) ≡ Ok (from_base bs ms, at (base_left bs after_name inside) size)) (sym set_ext) (base_read s knows head ms bs on fits after_name inside (skip_blank (base_text (last_base bs) ++ (123 ∷ inside))) size) in
    let brace : Front Mark (123 ∷ []) (base_left bs after_name inside) inside = mark_at 123 (left_is_brace bs after_name inside (skip_blank (base_text (last_base bs) ++ (123 ∷ inside)))) refl in
    let inherited = listed (take_members (count_of (last_base bs)) ms) in
    let read = members_read s knows set.hashed own are some inherited inside (59 ∷ rest) (skip_blank (members_text own ++ (125 ∷ 59 ∷ rest)) ∙ ap skip (sym (append_assoc (members_text own) (125 ∷ []) (59 ∷ rest)))) size in
    record {
      made = record { at = place (at named size); name = last; full = full; tree = structure (record { name = Some full; ext = set.ext; nested = set.nested; hashed_ids = set.hashed; bases = bs }) (members_of (inherited ++ listed own)); fits = true };
      reads = rw (next_is front size, name, no_end, base, want_is brace refl size, read, want_is (mark_front 59 rest refl) refl size) refl;
      named = refl;
      whole = refl;
      content = rw (set_ext, set_nested, set_hashed, split_members (count_of (last_base bs)) ms, members_listed ms, ← is_named, ← bases) refl;
      fitting = refl;
    }
