-- The objects of a reply to getTypes, one identifier after another.
use Rattle.std.proofs.Common.{◌≡◌, ◌≢◌, ℕ, ◌+◌, ◌-◌, ◌≤◌, ◌<◌, true, false, cond, List, [], ◌∷◌, ◌++◌, length, Option, refl, sym, ap, subst, ◌∙◌, append_assoc, append-nil, length-append, arith}
use Rattle.std.specs.Prelude.{None, Some, nat_lt}
use Rattle.type_trees.specs.declared.types.HashId.{HashId}
use Rattle.object_formats.proofs.OwnKinds.{text_short, text_kind}
use Rattle.std.proofs.lemmas.Bool.{lt-ltb, le-ltb}
use Rattle.type_object.specs.Pools.{IsObject}
use Rattle.type_object.specs.References.{is_among, once}
use Rattle.type_lookup.specs.declared.messages.messages.Fetched.{Fetched}
use Rattle.type_lookup.specs.messages.Spelling.{fetched_octets, all_octets, object_octets, number_octets}
use Rattle.type_trees.specs.Ids.{id_octets, is_object_kind}
use Rattle.type_registry.specs.Held.{IsNamed, held}
use Rattle.type_lookup.proofs.OfMessages.ListSpelling.{all-append}
use Rattle.type_object.specs.visits.Visits.{Known}
use Rattle.lookup_service.specs.replies.Walks.{Agrees, Further}
use Rattle.lookup_service.specs.replies.Replies.{and_known, objects_of, within, served}
use Rattle.type_object.proofs.OfVisits.Among.{among_last}
use Rattle.lookup_service.proofs.OfReplies.Walking.{agrees_before, further_more}

-- Whatever is learned later of other identifiers, these objects are served, and then those of the rest, as far as there is room.
abbrev pub ServesFrom : Known → List HashId → List HashId → List Fetched → ℕ → List HashId → Type 0
ServesFrom k tried asked objects room rest = (l : Known) → Agrees k l tried → served l asked ≡ objects ++ within room (objects_of l (once tried rest))

pub serves_start : (k : Known) (asked : List HashId) → ServesFrom k [] asked [] 262131 asked
unfolding served
serves_start k asked = λ l a. refl

pub serves_past : (k : Known) (tried asked : List HashId) (objects : List Fetched) (room : ℕ) (id : HashId) (rest : List HashId) → is_among id tried ≡ true → ServesFrom k tried asked objects room (id ∷ rest) → ServesFrom k tried asked objects room rest
serves_past k tried asked objects room id rest e h = λ l a.
    h l a ∙ ap (λ b. objects ++ within room (objects_of l (cond b (once tried rest) (id ∷ once (tried ++ id ∷ []) rest)))) e

abbrev one : HashId → List ℕ → Fetched
one id octets = record { id = id; octets = octets }

-- with the first of the rest as it is known
next_one : (k l : Known) (tried asked : List HashId) (objects : List Fetched) (room : ℕ) (id : HashId) (rest : List HashId) (o : Option (List ℕ)) → Further k tried l (tried ++ id ∷ []) → is_among id tried ≡ false → l id ≡ o → ServesFrom k tried asked objects room (id ∷ rest)
    → (m : Known) → Agrees l m (tried ++ id ∷ []) → served m asked ≡ objects ++ within room (and_known id o (objects_of m (once (tried ++ id ∷ []) rest)))
next_one k l tried asked objects room id rest o f n is h m a =
    h m (agrees_before k l m tried (tried ++ id ∷ []) f a)
    ∙ ap (λ b. objects ++ within room (objects_of m (cond b (once tried rest) (id ∷ once (tried ++ id ∷ []) rest)))) n
    ∙ ap (λ (p : Option (List ℕ)). objects ++ within room (and_known id p (objects_of m (once (tried ++ id ∷ []) rest)))) (a id (among_last id tried) ∙ is)

pub serves_unknown : (k l : Known) (tried asked : List HashId) (objects : List Fetched) (room : ℕ) (id : HashId) (rest : List HashId) → Further k tried l (tried ++ id ∷ []) → is_among id tried ≡ false → l id ≡ None → ServesFrom k tried asked objects room (id ∷ rest)
    → ServesFrom l (tried ++ id ∷ []) asked objects room rest
serves_unknown k l tried asked objects room id rest f n is h = λ m a. next_one k l tried asked objects room id rest None f n is h m a

pub serves_known : (k l : Known) (tried asked : List HashId) (objects : List Fetched) (room : ℕ) (id : HashId) (rest : List HashId) (octets : List ℕ) → Further k tried l (tried ++ id ∷ []) → is_among id tried ≡ false → l id ≡ Some octets
    → nat_lt room (length (fetched_octets (one id octets))) ≡ false → ServesFrom k tried asked objects room (id ∷ rest)
    → ServesFrom l (tried ++ id ∷ []) asked (objects ++ one id octets ∷ []) (room - length (fetched_octets (one id octets))) rest
serves_known k l tried asked objects room id rest octets f n is fits h = λ m a.
    let others = objects_of m (once (tried ++ id ∷ []) rest) in
    let long = length (fetched_octets (one id octets)) in
    next_one k l tried asked objects room id rest (Some octets) f n is h m a
    ∙ ap (λ b. objects ++ cond b [] (one id octets ∷ within (room - long) others)) fits
    ∙ sym (append_assoc objects (one id octets ∷ []) (within (room - long) others))

pub serves_no_more : (k l : Known) (tried asked : List HashId) (objects : List Fetched) (room : ℕ) (id : HashId) (rest : List HashId) (octets : List ℕ) → Further k tried l (tried ++ id ∷ []) → is_among id tried ≡ false → l id ≡ Some octets
    → nat_lt room (length (fetched_octets (one id octets))) ≡ true → ServesFrom k tried asked objects room (id ∷ rest) → objects ≡ served l asked
serves_no_more k l tried asked objects room id rest octets f n is full h =
    let others = objects_of l (once (tried ++ id ∷ []) rest) in
    let long = length (fetched_octets (one id octets)) in
    sym (next_one k l tried asked objects room id rest (Some octets) f n is h l (λ j a. refl)
    ∙ ap (λ b. objects ++ cond b [] (one id octets ∷ within (room - long) others)) full
    ∙ append-nil objects)

pub serves_all : (k : Known) (tried asked : List HashId) (objects : List Fetched) (room : ℕ) → ServesFrom k tried asked objects room [] → objects ≡ served k asked
serves_all k tried asked objects room h = sym (h k (λ j a. refl) ∙ append-nil objects)

-- ---- sizes

four : (n : ℕ) → length (number_octets n) ≡ 4
four n = refl

pub fetched_long : (id : HashId) (octets : List ℕ) → length id.hash ≡ 14 → length (fetched_octets (one id octets)) ≡ 19 + length octets
fetched_long id octets e = omega (arith, length-append (id_octets id) (object_octets octets), length-append (number_octets (length octets)) octets, four (length octets))

pub longer_by : (objects : List Fetched) (object : Fetched) → length (all_octets fetched_octets (objects ++ object ∷ [])) ≡ length (all_octets fetched_octets objects) + length (fetched_octets object)
longer_by objects object =
    ap length (all-append fetched_octets objects (object ∷ [])) ∙ length-append (all_octets fetched_octets objects) (fetched_octets object ++ [])
    ∙ ap (λ (o : List ℕ). length (all_octets fetched_octets objects) + length o) (append-nil (fetched_octets object))

pub short_text : (octets : List ℕ) → IsObject octets → length octets ≤ 131072
short_text octets is = text_short octets is.object is.read

-- ---- the steps of the loop

module _ (k l : Known) (tried then asked : List HashId) (objects : List Fetched) (room : ℕ) (id : HashId) (rest after : List HashId) where
  pub asked_past : rest ≡ id ∷ after → is_among id tried ≡ true → ServesFrom k tried asked objects room rest → ServesFrom k tried asked objects room after
  asked_past is among h = serves_past k tried asked objects room id after among (subst (ServesFrom k tried asked objects room) is h)

  pub asked_unknown : then ≡ tried ++ id ∷ [] → rest ≡ id ∷ after → is_among id tried ≡ false → ((j : HashId) → j ≢ id → l j ≡ k j) → l id ≡ None → ServesFrom k tried asked objects room rest → ServesFrom l then asked objects room after
  asked_unknown more is new others none h = subst (λ (o : List HashId). ServesFrom l o asked objects room after) (sym more)
      (serves_unknown k l tried asked objects room id after (further_more k l tried id new others) new none (subst (ServesFrom k tried asked objects room) is h))

  pub asked_known : (octets : List ℕ) (size : ℕ) (objects_then : List Fetched) → then ≡ tried ++ id ∷ [] → rest ≡ id ∷ after → is_among id tried ≡ false → ((j : HashId) → j ≢ id → l j ≡ k j) → l id ≡ Some octets → length id.hash ≡ 14 → size ≡ 19 + length octets → size ≤ room
      → objects_then ≡ objects ++ one id octets ∷ [] → ServesFrom k tried asked objects room rest → ServesFrom l then asked objects_then (room - size) after
  asked_known octets size objects_then more is new others there hash long fits put h =
      let same : length (fetched_octets (one id octets)) ≡ size = fetched_long id octets hash ∙ sym long in
      subst (λ (o : List Fetched). ServesFrom l then asked o (room - size) after) (sym put)
      (subst (λ n. ServesFrom l then asked (objects ++ one id octets ∷ []) (room - n) after) same
      (subst (λ (o : List HashId). ServesFrom l o asked (objects ++ one id octets ∷ []) (room - length (fetched_octets (one id octets))) after) (sym more)
      (serves_known k l tried asked objects room id after octets (further_more k l tried id new others) new there (ap (λ n. nat_lt room n) same ∙ le-ltb room size fits) (subst (ServesFrom k tried asked objects room) is h))))

  pub asked_full : (octets : List ℕ) (size : ℕ) → rest ≡ id ∷ after → is_among id tried ≡ false → ((j : HashId) → j ≢ id → l j ≡ k j) → l id ≡ Some octets → length id.hash ≡ 14 → size ≡ 19 + length octets → room < size
      → ServesFrom k tried asked objects room rest → objects ≡ served l asked
  asked_full octets size is new others there hash long full h =
      serves_no_more k l tried asked objects room id after octets (further_more k l tried id new others) new there (ap (λ n. nat_lt room n) (fetched_long id octets hash ∙ sym long) ∙ lt-ltb room size full) (subst (ServesFrom k tried asked objects room) is h)

-- with one more object
pub fits_still : (objects objects_then : List Fetched) (room size : ℕ) (id : HashId) (octets : List ℕ) → length id.hash ≡ 14 → size ≡ 19 + length octets → size ≤ room → objects_then ≡ objects ++ one id octets ∷ []
    → length (all_octets fetched_octets objects) + room ≡ 262131 → length (all_octets fetched_octets objects_then) + (room - size) ≡ 262131
fits_still objects objects_then room size id octets hash long fits put h =
    let more = ap (λ (o : List Fetched). length (all_octets fetched_octets o)) put ∙ longer_by objects (one id octets) in
    omega (arith, more, fetched_long id octets hash)

pub serves_init : (k : Known) (tried asked : List HashId) (objects : List Fetched) → tried ≡ [] → objects ≡ [] → ServesFrom k tried asked objects 262131 asked
serves_init k tried asked objects none empty = subst (λ (o : List HashId). ServesFrom k o asked objects 262131 asked) (sym none) (subst (λ (o : List Fetched). ServesFrom k [] asked o 262131 asked) (sym empty) (serves_start k asked))

pub item_put : (objects then : List Fetched) (id : HashId) (f : Fetched) → then ≡ objects ++ f ∷ [] → f.id ≡ id → then ≡ objects ++ one id f.octets ∷ []
item_put objects then id f is same = is ∙ ap (λ (i : HashId). objects ++ one i f.octets ∷ []) same

-- an identifier of an object has an object's kind
pub named_kind : (name : List ℕ → List ℕ) (id j : HashId) (octets : List ℕ) → IsNamed name (held id octets) → id ≡ j → is_object_kind j.kind ≡ true
named_kind name id j octets named same = subst (λ (i : HashId). is_object_kind i.kind ≡ true) (sym named.1 ∙ same) (text_kind octets named.0.object named.0.read)
