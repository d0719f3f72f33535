-- The records of objects, one after another.
use Rattle.std.proofs.Common.{◌≡◌, sym, ap, ◌∙◌, append-nil, append_assoc, Option, Some, None, ℕ, ◌+◌, ◌<◌, ◌≤◌, List, [], ◌++◌, length, drop, get_or, drop_of_length-le}
use Rattle.std.proofs.KnownBytes.{Appends-trans}
use Rattle.std.proofs.lemmas.List.{at_drop_more}
use Rattle.type_trees.specs.declared.types.HashId.{HashId}
use Rattle.type_object.specs.Pools.{Texts, found}
use Rattle.xt_outside.specs.Outside.{AppendsAll, AppendsPrefix}
use Rattle.xt_recorder.specs.Recordings.{object_record, object_records}

pub next_record : (pool : Texts) (ids : List HashId) (i : ℕ) (d : HashId) → i < length ids → object_records pool (drop i ids) ≡ object_record (found (get_or ids i d) pool) ++ object_records pool (drop (i + 1) ids)
next_record pool ids i d within = at_drop_more (object_records pool) ids i d within

pub no_record : (pool : Texts) (ids : List HashId) (i : ℕ) → length ids ≤ i → object_records pool (drop i ids) ≡ []
no_record pool ids i le = ap (object_records pool) (drop_of_length-le ids le)

pub none_yet : (a : Option (List ℕ)) → AppendsAll a a []
none_yet None = tt
none_yet (Some xs) = sym (append-nil xs)

-- one record more was written
pub one_more : (all octets one rest : List ℕ) (more : List ℕ) → all ≡ octets ++ rest → rest ≡ one ++ more → all ≡ (octets ++ one) ++ more
one_more all octets one rest more is split = is ∙ ap (λ (l : List ℕ). octets ++ l) split ∙ sym (append_assoc octets one more)

pub all_written : (all octets rest : List ℕ) → all ≡ octets ++ rest → rest ≡ [] → octets ≡ all
all_written all octets rest is none = sym (is ∙ ap (λ (l : List ℕ). octets ++ l) none ∙ append-nil octets)

-- a beginning of what comes behind a part that was written
pub behind_part : (a b c : Option (List ℕ)) (xs ys : List ℕ) → AppendsAll a b xs → AppendsPrefix b c ys → AppendsPrefix a c (xs ++ ys)
behind_part a b c xs ys p q =
    let (some, rest, parts, appended) = q in
    (xs ++ some, rest, ap (λ l. xs ++ l) parts ∙ sym (append_assoc xs some rest), Appends-trans a b c xs some p appended)
