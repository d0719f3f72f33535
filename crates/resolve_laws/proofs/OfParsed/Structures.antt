-- Declared structures have all their names: of their own parts, and of their bases.
use Rattle.std.proofs.Common.{◌≡◌, refl, ap, ℕ, zero, suc, Bool, true, ◌&&◌, List, [], ◌∷◌, Option, Some}
use Rattle.std.proofs.lemmas.Bool.{and_parts, and_from}
use Rattle.xt_shapes.specs.Lists.{all}
use Rattle.type_trees.specs.declared.types.Base.{Base}
use Rattle.type_trees.specs.declared.types.Name.{Name}
use Rattle.type_trees.specs.Bases.{take_members, split_last, head_of, base_from}
use Rattle.type_trees.specs.Trees.{structure, StructHead, Members, no_members, member}
use Rattle.idl_tokens.specs.Classes.{Text}
use Rattle.idl_types.specs.State.{Declared}
use Rattle.idl_printer.specs.Parts.{members_behind}
use Rattle.idl_printer.specs.Lines.{last_base, count_of}
use Rattle.object_formats.specs.Tables.{has_name}
use Rattle.idl_laws.specs.Printable.{is_spelled, EachMember, IsOnBase, own_members}
use Rattle.idl_laws.proofs.Bases.{last_is}
use Rattle.resolve_laws.specs.Named.{is_full, is_named, are_named, numbers_fit, members_fit}
use Rattle.resolve_laws.proofs.OfParsed.Uses.{IsWhole, AreWhole, named_whole, typed_whole}

-- members with all their names and with numbers that the program's types hold
pub record WholeMembers (ms : Members) : Type 0 where
  pub named : are_named ms ≡ true
  pub fits : members_fit ms ≡ true

pub spelled_full : (name : Name) → is_spelled name ≡ true → is_full name ≡ true
spelled_full (Name.Full text) spelled = refl
spelled_full (Name.Hashed hash) spelled = spelled

pub some_name : (name : Option Text) (full : Text) → name ≡ Some full → has_name name ≡ true
some_name name full is = ap has_name is

own_whole : (known : Declared) → AreWhole known → (ms : Members) → EachMember known ms → WholeMembers ms
own_whole known whole no_members each = record { named = refl; fits = refl }
own_whole known whole (member m t ms) each =
    let part = typed_whole known whole t each.1.0 in
    let more = own_whole known whole ms each.1.1 in
    record { named = and_from _ _ (and_from _ _ (spelled_full m.name each.0) part.named) more.named; fits = and_from _ _ part.fits more.fits }

-- the first members and those behind them are all
joined_whole : (n : ℕ) (ms : Members) → WholeMembers (take_members n ms) → WholeMembers (members_behind n ms) → WholeMembers ms
joined_whole zero ms first behind = behind
joined_whole (suc n) no_members first behind = first
joined_whole (suc n) (member m t ms) first behind =
    let names = and_parts (is_full m.name && is_named t) (are_named (take_members n ms)) first.named in
    let fits = and_parts (numbers_fit t) (members_fit (take_members n ms)) first.fits in
    let more = joined_whole n ms (record { named = names.1; fits = fits.1 }) behind in
    record { named = and_from _ _ names.0 more.named; fits = and_from _ _ fits.0 more.fits }

all_of_split : (f : Base → Bool) (b : Base) (bs : List Base) → all f (split_last b bs).0 ≡ true → f (split_last b bs).1 ≡ true → all f (b ∷ bs) ≡ true
all_of_split f b [] before last = and_from _ _ last refl
all_of_split f b (c ∷ cs) before last = let each = and_parts (f b) (all f (split_last c cs).0) before in and_from _ _ each.0 (all_of_split f c cs each.1 last)

-- what a structure has from its bases
record WholeBases (bs : List Base) (ms : Members) : Type 0 where
  named : all (λ b. has_name b.name) bs ≡ true
  first : WholeMembers (take_members (count_of (last_base bs)) ms)

bases_whole : (known : Declared) → AreWhole known → (bs : List Base) (head : StructHead) (ms : Members) → IsOnBase known (base_from bs head ms) → WholeBases bs ms
bases_whole known whole [] head ms base = record { named = refl; first = record { named = refl; fits = refl } }
bases_whole known whole (b ∷ bs) head ms base =
    let s = split_last b bs in
    let part : IsWhole (structure (head_of head s) (take_members s.1.count ms)) = named_whole known whole s.1.name (structure (head_of head s) (take_members s.1.count ms)) base in
    let names = and_parts (has_name s.1.name && all (λ b. has_name b.name) s.0) (are_named (take_members s.1.count ms)) part.named in
    let own = and_parts (has_name s.1.name) (all (λ b. has_name b.name) s.0) names.0 in
    record { named = all_of_split (λ b. has_name b.name) b bs own.1 own.0; first = rw (last_is b bs) (record { named = names.1; fits = part.fits }) }

pub structure_whole : (known : Declared) → AreWhole known → (full : Text) (head : StructHead) (ms : Members) → head.name ≡ Some full → IsOnBase known (base_from head.bases head ms)
    → EachMember known (own_members head ms) → IsWhole (structure head ms)
structure_whole known whole full head ms name base each =
    let bases = bases_whole known whole head.bases head ms base in
    let members = joined_whole (count_of (last_base head.bases)) ms bases.first (own_whole known whole (own_members head ms) each) in
    record { named = and_from _ _ (and_from _ _ (some_name head.name full name) bases.named) members.named; fits = members.fits }
