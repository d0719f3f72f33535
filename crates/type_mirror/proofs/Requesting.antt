-- The requests of a push have frames.
use Rattle.std.proofs.Common.{◌≡◌, ℕ, zero, suc, ◌+◌, ◌-◌, ◌<◌, ◌≤◌, Bool, true, false, cond, List, [], ◌∷◌, ◌++◌, length, map, take, drop, get_or, length-append, length-take-le, refl, sym, ap, subst, ◌∙◌, arith}
use Rattle.std.specs.Prelude.{All, Some, nat_lt}
use Rattle.std.proofs.lemmas.Bool.{lt-ltb, le-ltb, ltb-false}
use Rattle.std.proofs.lemmas.List.{map_more}
use Rattle.type_object.proofs.OfVisits.Left.{next_item}
use Rattle.std.proofs.lemmas.List.Elements.{All-nil, All-cons, All-head, All-tail}
use Rattle.type_trees.specs.declared.types.HashId.{HashId}
use Rattle.type_trees.specs.Ids.{is_object_kind}
use Rattle.object_formats.proofs.OwnKinds.{text_short, text_kind}
use Rattle.type_lookup.specs.declared.messages.messages.Fetched.{Fetched}
use Rattle.type_lookup.specs.declared.messages.messages.Operation.TheVariants as operation
use Rattle.type_lookup.specs.declared.messages.messages.Message.TheVariants.{PutTypes, GetTypes}
use Rattle.type_lookup.specs.declared.messages.messages.Message.{Message}
use Rattle.type_lookup.specs.messages.Spelling.{payload_of, HasFrame, HasHash, HasObjectLength, IsKnownId, head_octets, number_octets, object_octets, all_octets, counted_octets}
use Rattle.lookup_fetch.proofs.Asking.{gets_frame}
use Rattle.type_mirror.specs.told.Rounds.{fitting, count_of, batch, octets_of, outcomes_of, put_request}
use Rattle.type_mirror.specs.told.Pushes.{IsOwn}
use Rattle.type_mirror.specs.Objects.{IsShort}

abbrev pub size : Fetched → ℕ
size object = length (object_octets object.octets)

abbrev pub sizes : List Fetched → ℕ
sizes objects = length (all_octets object_octets (map octets_of objects))

four : (n : ℕ) → length (number_octets n) ≡ 4
four n = refl

pub size_is : (object : Fetched) → size object ≡ 4 + length object.octets
size_is object = omega (arith, length-append (number_octets (length object.octets)) object.octets, four (length object.octets))

sizes_more : (o : Fetched) (os : List Fetched) → sizes (o ∷ os) ≡ size o + sizes os
sizes_more o os = length-append (object_octets o.octets) (all_octets object_octets (map octets_of os))

-- ---- how many objects a request has

cond_within : (b : Bool) (k n : ℕ) → k ≤ n → cond b 0 (suc k) ≤ suc n
cond_within true k n h = omega arith
cond_within false k n h = omega (arith, h)

fitting_most : (n room : ℕ) (objects : List Fetched) → fitting n room objects ≤ n
fitting_most zero room objects = omega arith
fitting_most (suc n) room [] = omega arith
fitting_most (suc n) room (o ∷ os) = cond_within (nat_lt room (size o)) (fitting n (room - size o) os) n (fitting_most n (room - size o) os)

fitting_within : (n room : ℕ) (objects : List Fetched) → fitting n room objects ≤ length objects
fitting_within zero room objects = omega arith
fitting_within (suc n) room [] = omega arith
fitting_within (suc n) room (o ∷ os) = cond_within (nat_lt room (size o)) (fitting n (room - size o) os) (length os) (fitting_within n (room - size o) os)

fits_by : (b : Bool) (room k : ℕ) (o : Fetched) (os : List Fetched) → nat_lt room (size o) ≡ b → sizes (take k os) ≤ room - size o → sizes (take (cond b 0 (suc k)) (o ∷ os)) ≤ room
fits_by true room k o os e h = omega arith
fits_by false room k o os e h = omega (arith, h, ltb-false room (size o) e, sizes_more o (take k os))

fitting_fits : (n room : ℕ) (objects : List Fetched) → sizes (take (fitting n room objects) objects) ≤ room
fitting_fits zero room objects = omega arith
fitting_fits (suc n) room [] = omega arith
fitting_fits (suc n) room (o ∷ os) = fits_by (nat_lt room (size o)) room (fitting n (room - size o) os) o os refl (fitting_fits n (room - size o) os)

pub count_most : (objects : List Fetched) → count_of objects ≤ 1024
unfolding count_of
count_most objects = fitting_most 1024 262131 objects

pub count_within : (objects : List Fetched) → count_of objects ≤ length objects
unfolding count_of
count_within objects = fitting_within 1024 262131 objects

pub count_fits : (objects : List Fetched) → sizes (take (count_of objects) objects) ≤ 262131
unfolding count_of
count_fits objects = fitting_fits 1024 262131 objects

one_more : (b : Bool) (k : ℕ) → b ≡ false → 0 < cond b 0 (suc k)
one_more true k e = absurd cc
one_more false k e = omega arith

first_fits : (o : Fetched) (os : List Fetched) → IsShort o → 0 < count_of (o ∷ os)
unfolding count_of
first_fits o os short = one_more (nat_lt 262131 (size o)) (fitting 1023 (262131 - size o) os) (le-ltb 262131 (size o) (omega (arith, short, size_is o)))

-- a request has an object at least
pub count_some : (objects : List Fetched) → All IsShort objects → 0 < length objects → 0 < count_of objects
count_some [] all some = absurd (let s = some in omega (arith, s))
count_some (o ∷ os) all some = first_fits o os (All-head IsShort o os all)

-- ---- counting

cond_false : (b : Bool) (k : ℕ) → b ≡ false → cond b 0 (suc k) ≡ suc k
cond_false b k e = ap (λ (c : Bool). cond c 0 (suc k)) e

cond_true : (b : Bool) (k : ℕ) → b ≡ true → cond b 0 (suc k) ≡ 0
cond_true b k e = ap (λ (c : Bool). cond c 0 (suc k)) e

module _ (total i room : ℕ) (l rest : List Fetched) (o : Fetched) (first : l ≡ o ∷ rest) (more : i < 1024) (so : total ≡ i + fitting (1024 - i) room l) where
  one_left : 1024 - i ≡ suc (1024 - (i + 1))
  one_left = omega (arith, more)

  here : total ≡ i + cond (nat_lt room (size o)) 0 (suc (fitting (1024 - (i + 1)) (room - size o) rest))
  here = so ∙ ap (λ n. i + fitting n room l) one_left ∙ ap (λ (x : List Fetched). i + fitting (suc (1024 - (i + 1))) room x) first

  pub counted : (long : ℕ) → long ≡ size o → long ≤ room → total ≡ (i + 1) + fitting (1024 - (i + 1)) (room - long) rest
  counted long is fits =
      let step = cond_false (nat_lt room (size o)) (fitting (1024 - (i + 1)) (room - size o) rest) (ap (nat_lt room) (sym is) ∙ le-ltb room long fits) in
      let same = ap (λ n. fitting (1024 - (i + 1)) (room - n) rest) is in
      omega (arith, here, step, same)

  pub counted_all : (long : ℕ) → long ≡ size o → room < long → i ≡ total
  counted_all long is full =
      let step = cond_true (nat_lt room (size o)) (fitting (1024 - (i + 1)) (room - size o) rest) (ap (nat_lt room) (sym is) ∙ lt-ltb room long full) in
      omega (arith, here, step)

fitting_nil : (n room : ℕ) → fitting n room [] ≡ 0
fitting_nil zero room = refl
fitting_nil (suc n) room = refl

pub counted_most : (total i room : ℕ) (l : List Fetched) → i ≡ 1024 → total ≡ i + fitting (1024 - i) room l → i ≡ total
counted_most total i room l e so = let n = so ∙ ap (λ k. k + fitting (1024 - k) room l) e in omega (arith, e, n)

pub counted_last : (total i room : ℕ) (l : List Fetched) → l ≡ [] → total ≡ i + fitting (1024 - i) room l → i ≡ total
counted_last total i room l none so =
    let e = ap (fitting (1024 - i) room) none ∙ fitting_nil (1024 - i) room in
    omega (arith, so, e)

pub counted_none : (objects : List Fetched) → count_of objects ≡ 0 + fitting (1024 - 0) 262131 objects
unfolding count_of
counted_none objects = omega arith

-- the objects from a place on, where this is the object there
pub from_here : (l : List Fetched) (i j : ℕ) (o d : Fetched) → i ≡ j → j < length l → o ≡ get_or l j d → drop i l ≡ o ∷ drop (i + 1) l
from_here l i j o d same lt is = subst (λ n. drop n l ≡ o ∷ drop (n + 1) l) (sym same) (next_item l j (j + 1) d lt (omega arith) ∙ ap (λ (x : Fetched). x ∷ drop (j + 1) l) (sym is))

-- one more object was copied
pub copied_next : (copied now : List (List ℕ)) (objects : List Fetched) (i : ℕ) (o d : Fetched) (text : List ℕ) → i < length objects → o ≡ get_or objects i d → text ≡ o.octets → now ≡ copied ++ text ∷ [] → copied ≡ map octets_of (take i objects) → now ≡ map octets_of (take (i + 1) objects)
copied_next copied now objects i o d text lt is same put h =
    put ∙ ap (λ (x : List (List ℕ)). x ++ text ∷ []) h ∙ ap (λ (x : List ℕ). map octets_of (take i objects) ++ x ∷ []) (same ∙ ap octets_of is) ∙ sym (map_more octets_of objects i d lt)

-- ---- frames

head_long : (tag : ℕ) → length (head_octets 0 operation.PutTypes tag) ≡ 9
head_long tag = refl

pub puts_frame : (tag : ℕ) (objects : List Fetched) → All IsShort objects → length objects ≤ 1024 → sizes objects ≤ 262131 → HasFrame (PutTypes tag (map octets_of objects))
unfolding payload_of
puts_frame tag objects short few fits = record {
  limits = record { count = omega (arith, few, texts objects); each = each objects short };
  fits = omega (
    arith,
    fits,
    length-append (head_octets 0 operation.PutTypes tag) (counted_octets object_octets (map octets_of objects)),
    head_long tag,
    length-append (number_octets (length (map octets_of objects))) (all_octets object_octets (map octets_of objects)),
    four (length (map octets_of objects)),
  );
}
  where
    texts : (os : List Fetched) → length (map octets_of os) ≡ length os
    texts [] = refl
    texts (o ∷ os) = ap suc (texts os)

    each : (os : List Fetched) → All IsShort os → All HasObjectLength (map octets_of os)
    each [] all = All-nil HasObjectLength
    each (o ∷ os) all = All-cons HasObjectLength o.octets (map octets_of os) (All-head IsShort o os all) (each os (All-tail IsShort o os all))

pub get_frame : (tag : ℕ) (id : HashId) → IsKnownId id → HasHash id → HasFrame (GetTypes tag (id ∷ []))
get_frame tag id known hash = gets_frame tag (id ∷ []) (All-cons IsKnownId id [] known (All-nil IsKnownId)) (All-cons HasHash id [] hash (All-nil HasHash)) (omega arith)

-- the request for what comes next
pub put_is : (tag : ℕ) (objects : List Fetched) → 0 < length objects → put_request tag objects ≡ Some (PutTypes tag (map octets_of (batch objects)))
put_is tag [] some = absurd (let s = some in omega (arith, s))
put_is tag (o ∷ os) some = refl

-- ---- what may be pushed

pub own_short : (name : List ℕ → List ℕ) (objects : List Fetched) → All (IsOwn name) objects → All IsShort objects
own_short name [] all = All-nil IsShort
own_short name (o ∷ os) all = let own = All-head (IsOwn name) o os all in All-cons IsShort o os (text_short o.octets own.text.object own.text.read) (own_short name os (All-tail (IsOwn name) o os all))

abbrev pub HasKnownId : Fetched → Type 0
HasKnownId object = IsKnownId object.id

pub own_known : (name : List ℕ → List ℕ) (objects : List Fetched) → All (IsOwn name) objects → All HasKnownId objects
own_known name [] all = All-nil HasKnownId
own_known name (o ∷ os) all =
    let own = All-head (IsOwn name) o os all in
    All-cons HasKnownId o os (ap (λ (i : HashId). is_object_kind i.kind) own.named ∙ text_kind o.octets own.text.object own.text.read) (own_known name os (All-tail (IsOwn name) o os all))

-- what was put is the request for what comes next
pub put_asked : (tag : ℕ) (objects slice : List Fetched) (asked : Message) (count : ℕ) → 0 < length objects → count ≡ count_of objects → slice ≡ take count objects → asked ≡ PutTypes tag (map octets_of slice) → put_request tag objects ≡ Some asked
put_asked tag objects slice asked count some is cut e =
    put_is tag objects some ∙ ap (λ n. Some (PutTypes tag (map octets_of (take n objects)))) (sym is) ∙ ap (λ (o : List Fetched). Some (PutTypes tag (map octets_of o))) (sym cut) ∙ ap (λ (m : Message). Some m) (sym e)

-- its reply has as many outcomes
pub batch_long : (tag : ℕ) (objects : List Fetched) (count : ℕ) (reply : Message) → count ≡ count_of objects → outcomes_of tag (length (batch objects)) reply ≡ outcomes_of tag count reply
batch_long tag objects count reply is = ap (λ n. outcomes_of tag n reply) (length-take-le (count_of objects) objects (count_within objects) ∙ sym is)
