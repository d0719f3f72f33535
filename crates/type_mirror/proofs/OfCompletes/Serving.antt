-- The reply to what is asked for: its objects are good, new, and at least one.
use Rattle.std.proofs.Common.{◌≡◌, ℕ, ◌-◌, ◌≤◌, Bool, true, false, cond, List, [], ◌∷◌, ◌++◌, map, length, Option, inl, inr, refl, sym, ap, subst, ◌∙◌, length-append, arith}
use Rattle.std.specs.Prelude.{None, Some, nat_lt}
use Rattle.std.proofs.lemmas.Bool.{le-ltb}
use Rattle.std.proofs.lemmas.List.{length-take}
use Rattle.md5.specs.Md5.{md5}
use Rattle.type_trees.specs.declared.types.HashId.{HashId}
use Rattle.type_trees.specs.Ids.{same_id, id_octets}
use Rattle.type_trees.proofs.SameIds.{same_id_itself}
use Rattle.type_object.specs.Names.{named, hash_of}
use Rattle.type_object.specs.Pools.{Texts}
use Rattle.type_object.specs.References.{is_among, once}
use Rattle.type_object.specs.visits.Visits.{Known}
use Rattle.type_object.proofs.OfVisits.Among.{among_still, among_last}
use Rattle.type_lookup.specs.declared.messages.messages.Fetched.{Fetched}
use Rattle.type_lookup.specs.messages.Spelling.{fetched_octets, object_octets, number_octets}
use Rattle.type_registry.specs.Held.{IsNamed, held}
use Rattle.lookup_fetch.specs.declared.faults.FetchFault.{FetchFault}
use Rattle.lookup_fetch.specs.Rounds.{fault_of, first_fault, fault_in, objects_fault, text_of}
use Rattle.lookup_fetch.proofs.TakingIn.{fault_none, read_is}
use Rattle.lookup_service.specs.replies.Replies.{and_known, objects_of, within, served}
use Rattle.lookup_service.proofs.OfReplies.Getting.{short_text}
use Rattle.type_mirror.specs.told.Tells.{fetched_id}
use Rattle.type_mirror.specs.completes.Peers.{AreNamed}
use Rattle.type_mirror.proofs.OfCompletes.Among.{Within, Distinct, never, not_true, among_first, among_later, among_cases}

-- each of these texts is there
abbrev pub AreThere : Known → Texts → Type 0
AreThere there [] = Unit {0}
AreThere there (e ∷ es) = (there e.0 ≡ Some e.1) × AreThere there es

-- Objects that may come next in a reply to what was asked for, where those came before: they have no fault, they are there, each is one of the rest, and none comes twice.
pub record ComeNext (there : Known) (asked before rest : List HashId) (objects : List Fetched) : Type 0 where
  pub good : fault_in asked before objects ≡ None
  pub there_are : AreThere there (map text_of objects)
  pub inside : Within (map fetched_id objects) rest
  pub distinct : Distinct (map fetched_id objects)
  pub new : (id : HashId) → is_among id (map fetched_id objects) ≡ true → is_among id before ≡ false

abbrev one : HashId → List ℕ → Fetched
one id octets = record { id = id; octets = octets }

none_next : (there : Known) (asked before rest : List HashId) → ComeNext there asked before rest []
none_next there asked before rest = record { good = refl; there_are = tt; inside = λ id h. absurd (cc h); distinct = tt; new = λ id h. absurd (cc h) }

past_next : (there : Known) (asked before rest : List HashId) (id : HashId) (objects : List Fetched) → ComeNext there asked before rest objects → ComeNext there asked before (id ∷ rest) objects
past_next there asked before rest id objects h = record { good = h.good; there_are = h.there_are; inside = λ j a. among_later j id rest (h.inside j a); distinct = h.distinct; new = h.new }

object_good : (asked before : List HashId) (id : HashId) (octets : List ℕ) → is_among id asked ≡ true → is_among id before ≡ false → IsNamed hash_of (held id octets) → fault_of asked before (one id octets) ≡ None
object_good asked before id octets among new is = fault_none asked before (one id octets) among new (read_is octets is.0) (ap (λ i. same_id i (named octets)) is.1 ∙ same_id_itself (named octets))

one_next : (there : Known) (asked before rest : List HashId) (id : HashId) (octets : List ℕ) (objects : List Fetched) → there id ≡ Some octets → is_among id asked ≡ true → is_among id before ≡ false → IsNamed hash_of (held id octets)
    → ComeNext there asked (before ++ id ∷ []) rest objects → ComeNext there asked before (id ∷ rest) (one id octets ∷ objects)
one_next there asked before rest id octets objects is among new named h = record {
  good = ap (λ (o : Option FetchFault). first_fault o (fault_in asked (before ++ id ∷ []) objects)) (object_good asked before id octets among new named) ∙ h.good;
  there_are = (is, h.there_are);
  inside = λ j a. elim (among_cases j id (map fetched_id objects) a) [ inl e ↦ ap (λ i. is_among i (id ∷ rest)) e ∙ among_first id rest | inr t ↦ among_later j id rest (h.inside j t) ];
  distinct = (not_true (is_among id (map fetched_id objects)) (λ a. never (is_among id (before ++ id ∷ [])) (among_last id before) (h.new id a)), h.distinct);
  new = λ j a. elim (among_cases j id (map fetched_id objects) a) [
    | inl e ↦ ap (λ i. is_among i before) e ∙ new
    | inr t ↦ not_true (is_among j before) (λ b. never (is_among j (before ++ id ∷ [])) (among_still j id before b) (h.new j t))
  ];
}

-- what is there of what was asked for, as a service knows it
pub record Knows (there now : Known) (asked : List HashId) : Type 0 where
  pub named : AreNamed there
  pub each : (id : HashId) → is_among id asked ≡ true → (octets : List ℕ) × (there id ≡ Some octets)
  pub same : (id : HashId) (octets : List ℕ) → is_among id asked ≡ true → there id ≡ Some octets → now id ≡ Some octets

module _ (there now : Known) (asked : List HashId) (k : Knows there now asked) where
  with_room : (before rest : List HashId) (id : HashId) (octets : List ℕ) (room : ℕ) (objects : ℕ → List Fetched) → there id ≡ Some octets → is_among id asked ≡ true → is_among id before ≡ false → ((n : ℕ) → ComeNext there asked (before ++ id ∷ []) rest (objects n)) → (b : Bool)
      → ComeNext there asked before (id ∷ rest) (cond b [] (one id octets ∷ objects (room - length (fetched_octets (one id octets)))))
  with_room before rest id octets room objects is among new h true = none_next there asked before (id ∷ rest)
  with_room before rest id octets room objects is among new h false =
      one_next there asked before rest id octets (objects (room - length (fetched_octets (one id octets)))) is among new (k.named id octets is) (h (room - length (fetched_octets (one id octets))))

  come_by : (id : HashId) (rest before : List HashId) (room : ℕ) → is_among id asked ≡ true → ((then : List HashId) (n : ℕ) → ComeNext there asked then rest (within n (objects_of now (once then rest)))) → (b : Bool) → is_among id before ≡ b
      → ComeNext there asked before (id ∷ rest) (within room (objects_of now (cond b (once before rest) (id ∷ once (before ++ id ∷ []) rest))))
  come_by id rest before room among so true e = past_next there asked before rest id (within room (objects_of now (once before rest))) (so before room)
  come_by id rest before room among so false e =
      let o = k.each id among in
      let more = objects_of now (once (before ++ id ∷ []) rest) in
      subst (λ (p : Option (List ℕ)). ComeNext there asked before (id ∷ rest) (within room (and_known id p more))) (sym (k.same id o.0 among o.1))
      (with_room before rest id o.0 room (λ n. within n more) o.1 among e (λ n. so (before ++ id ∷ []) n) (nat_lt room (length (fetched_octets (one id o.0)))))

  pub come : (rest before : List HashId) (room : ℕ) → Within rest asked → ComeNext there asked before rest (within room (objects_of now (once before rest)))
  come [] before room inside = none_next there asked before []
  come (id ∷ rest) before room inside =
      come_by id rest before room (inside id (among_first id rest)) (λ then n. come rest then n (λ j h. inside j (among_later j id rest h))) (is_among id before) refl

-- ---- one has room always

four : (n : ℕ) → length (number_octets n) ≡ 4
four n = refl

has_room : (id : HashId) (octets : List ℕ) → IsNamed hash_of (held id octets) → nat_lt 262131 (length (fetched_octets (one id octets))) ≡ false
has_room id octets is =
    let short = short_text octets is.0 in
    let hash : length id.hash ≤ 14 = omega (arith, ap (λ (i : HashId). length i.hash) is.1, length-take 14 (md5 octets)) in
    le-ltb 262131 (length (fetched_octets (one id octets))) (omega (arith, short, hash, length-append (id_octets id) (object_octets octets), length-append (number_octets (length octets)) octets, four (length octets)))

-- What is served of what was asked for is good, and there is an object at least.
pub record IsServed (there : Known) (asked : List HashId) (objects : List Fetched) : Type 0 where
  pub first : Fetched
  pub others : List Fetched
  pub some : objects ≡ first ∷ others
  pub good : objects_fault asked objects ≡ None
  pub come : ComeNext there asked [] asked objects

good_some : (asked : List HashId) (objects others : List Fetched) (first : Fetched) → objects ≡ first ∷ others → fault_in asked [] objects ≡ None → objects_fault asked objects ≡ None
good_some asked objects others first is good = ap (objects_fault asked) is ∙ sym (ap (fault_in asked []) is) ∙ good

pub is_served : (there now : Known) (asked rest : List HashId) (first : HashId) → Knows there now asked → asked ≡ first ∷ rest → IsServed there asked (served now asked)
unfolding served
is_served there now asked rest first k is =
    let among : is_among first asked ≡ true = ap (is_among first) is ∙ among_first first rest in
    let o = k.each first among in
    let object = one first o.0 in
    let more = objects_of now (once ([] ++ first ∷ []) rest) in
    let others = within (262131 - length (fetched_octets object)) more in
    let c = come there now asked k asked [] 262131 (λ j h. h) in
    let some : served now asked ≡ object ∷ others =
    ap (λ (l : List HashId). within 262131 (objects_of now (once [] l))) is
    ∙ ap (λ (p : Option (List ℕ)). within 262131 (and_known first p more)) (k.same first o.0 among o.1)
    ∙ ap (λ (b : Bool). cond b [] (object ∷ others)) (has_room first o.0 (k.named first o.0 o.1)) in
    record { first = object; others = others; some = some; good = good_some asked (served now asked) others object some c.good; come = c }
