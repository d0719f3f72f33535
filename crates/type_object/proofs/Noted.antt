-- Identifiers noted one after another are each noted once.
use Rattle.std.proofs.Common.{◌≡◌, ℕ, ◌+◌, ◌<◌, Bool, true, false, cond, List, [], ◌∷◌, ◌++◌, map, drop, length, get_or, refl, sym, ap, ◌∙◌, append_assoc}
use Rattle.std.proofs.lemmas.List.{append-nil, drop_more}
use Rattle.std.specs.Prelude.{◌||◌, Result, Ok, Err, IfOk}
use Rattle.std.specs.List.{list_any}
use Rattle.indexmap.specs.IndexSet.{insert_key}
use Rattle.type_trees.specs.declared.types.HashId.{HashId}
use Rattle.type_trees.specs.contracts.types.HashIdPartialEq.TheImpl as keys
use Rattle.type_object.specs.References.{references, in_order, hashes, member_hashes, case_hashes, is_among, once, note, noted}
use Rattle.object_formats.specs.declared.objects.ObjectMember.{ObjectMember}
use Rattle.object_formats.specs.declared.objects.ObjectCase.{ObjectCase}
use Rattle.object_formats.specs.View.{identifier, member, case}
use Rattle.object_formats.specs.Objects.{Object}

pub noted_append : (seen a b : List HashId) → noted seen (a ++ b) ≡ noted (noted seen a) b
noted_append seen [] b = refl
noted_append seen (h ∷ a) b = noted_append (note seen h) a b

noted_step : (there : Bool) (seen hs : List HashId) (h : HashId) → noted seen hs ≡ seen ++ once seen hs → noted (seen ++ h ∷ []) hs ≡ (seen ++ h ∷ []) ++ once (seen ++ h ∷ []) hs → noted (cond there seen (seen ++ h ∷ [])) hs ≡ seen ++ cond there (once seen hs) (h ∷ once (seen ++ h ∷ []) hs)
noted_step true seen hs h old new = old
noted_step false seen hs h old new = new ∙ append_assoc seen (h ∷ []) _

pub noted_is : (seen hs : List HashId) → noted seen hs ≡ seen ++ once seen hs
noted_is seen [] = sym (append-nil seen)
noted_is seen (h ∷ hs) = noted_step (is_among h seen) seen hs h (noted_is seen hs) (noted_is (seen ++ h ∷ []) hs)

among_is : (k : HashId) (ks : List HashId) → list_any (keys.eq-value.it k) ks ≡ is_among k ks
among_is k [] = refl
among_is k (l ∷ ks) = ap (λ (b : Bool). keys.eq-value.it k l || b) (among_is k ks)

pub note_is : (k : HashId) (ks : List HashId) → insert_key keys.eq-value.it ks k ≡ note ks k
note_is k ks = ap (λ (there : Bool). cond there ks (ks ++ k ∷ [])) (among_is k ks)

-- ---- one member or case after another

step : {A : Type 0} (hashes_of : A → List HashId) (all : List A → List HashId) → ((a : A) (rest : List A) → all (a ∷ rest) ≡ hashes_of a ++ all rest)
    → (rest : List A) (i : ℕ) (a : A) (seen next whole : List HashId) → i < length rest → a ≡ get_or rest i a → next ≡ noted seen (hashes_of a) → noted seen (all (drop i rest)) ≡ whole → noted next (all (drop (i + 1) rest)) ≡ whole
step hashes_of all first rest i a seen next whole within is e inv =
    let split : drop i rest ≡ a ∷ drop (i + 1) rest = drop_more rest i a within ∙ ap (λ b. b ∷ drop (i + 1) rest) (sym is) in
    ap (λ ids. noted ids (all (drop (i + 1) rest))) e ∙ sym (noted_append seen (hashes_of a) (all (drop (i + 1) rest))) ∙ ap (noted seen) (sym (first a (drop (i + 1) rest)) ∙ ap all (sym split)) ∙ inv

pub members_step : (ms : List ObjectMember) (i : ℕ) (m : ObjectMember) (seen next whole : List HashId) → i < length ms → m ≡ get_or ms i m → next ≡ noted seen (hashes (identifier m.ty)) → noted seen (member_hashes (map member (drop i ms))) ≡ whole → noted next (member_hashes (map member (drop (i + 1) ms))) ≡ whole
members_step = step (λ m. hashes (identifier m.ty)) (λ ms. member_hashes (map member ms)) (λ m ms. refl)

pub cases_step : (cs : List ObjectCase) (i : ℕ) (c : ObjectCase) (seen next whole : List HashId) → i < length cs → c ≡ get_or cs i c → next ≡ noted seen (hashes (identifier c.ty)) → noted seen (case_hashes (map case (drop i cs))) ≡ whole → noted next (case_hashes (map case (drop (i + 1) cs))) ≡ whole
cases_step = step (λ c. hashes (identifier c.ty)) (λ cs. case_hashes (map case cs)) (λ c cs. refl)

-- what stands before the members, and then they
pub then_noted : {X E : Type 0} (result : Result X E) (seen next new a b c : List HashId) → next ≡ noted seen a → b ≡ c → IfOk result (λ u. new ≡ noted next b) → IfOk result (λ u. new ≡ noted seen (a ++ c))
then_noted (Ok x) seen next new a b c e is h = h ∙ ap (λ ids. noted ids b) e ∙ ap (noted (noted seen a)) is ∙ sym (noted_append seen a c)
then_noted (Err f) seen next new a b c e is h = tt

pub references_are : {E : Type 0} (result : Result (List HashId) E) (none keys slice : List HashId) (o : Object) → none ≡ [] → keys ≡ noted none (in_order o) → slice ≡ keys → IfOk result (λ ids. ids ≡ slice) → IfOk result (λ ids. ids ≡ references o)
unfolding references
references_are (Ok ids) none keys slice o empty e is h = h ∙ is ∙ e ∙ ap (λ ks. noted ks (in_order o)) empty ∙ noted_is [] (in_order o)
references_are (Err f) none keys slice o empty e is h = tt
