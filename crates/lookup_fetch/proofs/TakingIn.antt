-- Taking in the objects of a reply, one after another.
use Rattle.std.proofs.Common.{◌≡◌, ◌≢◌, ℕ, ◌+◌, ◌<◌, Bool, true, false, not, cond, ◌||◌, List, [], ◌∷◌, ◌++◌, length, map, take, drop, get_or, Option, Result, inl, inr, refl, sym, ap, ap₂, subst, ◌∙◌, append_assoc, append-nil, eq-eqb, arith}
use Rattle.std.specs.Prelude.{All, None, Some, Ok, Err, nat_le, slice_get}
use Rattle.std.proofs.lemmas.Bool.{ne_eqb}
use Rattle.std.proofs.lemmas.List.{map_more, nil_from_length}
use Rattle.std.proofs.lemmas.List.Elements.{All-head, All-tail}
use Rattle.type_trees.specs.declared.types.HashId.{HashId}
use Rattle.type_trees.specs.Ids.{same_id}
use Rattle.type_trees.proofs.SameIds.{same_id_tells, same_is}
use Rattle.object_formats.specs.declared.faults.Fault.{Fault}
use Rattle.object_formats.specs.Objects.{Object}
use Rattle.object_formats.specs.Tables.{object_of}
use Rattle.type_object.proofs.OfVisits.Among.{among_still, among_last, decide}
use Rattle.type_object.proofs.OfVisits.Left.{next_item}
use Rattle.type_object.specs.Names.{named}
use Rattle.type_object.specs.Pools.{Texts, IsObject, Refusal, no_object, full, found, put, added, added_so}
use Rattle.type_object.specs.References.{is_among}
use Rattle.type_lookup.specs.declared.messages.messages.Fetched.{Fetched}
use Rattle.type_lookup.specs.declared.messages.messages.Message.{Message}
use Rattle.type_lookup.specs.declared.messages.messages.Message.TheVariants.{GetTypes, GetTypeDependencies, PutTypes, Types, Dependencies, Put}
use Rattle.lookup_fetch.specs.declared.faults.FetchFault.{FetchFault}
use Rattle.lookup_fetch.specs.declared.faults.FetchFault.TheVariants.{LinkFault, BadReply, WrongHash, NotServed, TooMany, OutOfMemory}
use Rattle.lookup_fetch.specs.Rounds.{found_in, is_object, fault_of, first_fault, fault_in, not_served, objects_fault, reply_fault, text_of, texts_in}
use Rattle.lookup_fetch.specs.Taking.{AreNew, IsFault}

-- what is a fault of the one is a fault of the other
pub fault_then : (one other : Option FetchFault) (fault : FetchFault) → ((f : FetchFault) → one ≡ Some f → other ≡ Some f) → IsFault one fault → IsFault other fault
fault_then one other LinkFault so h = h
fault_then one other BadReply so h = so BadReply h
fault_then one other (WrongHash id got) so h = so (WrongHash id got) h
fault_then one other (NotServed id) so h = so (NotServed id) h
fault_then one other TooMany so h = so TooMany h
fault_then one other OutOfMemory so h = tt

-- ---- one object

-- the fault of an object by the tests: whether it was asked for, came before, is an object's text, and has its own identifier
abbrev pub by_tests : Bool → Bool → Bool → Bool → HashId → HashId → Option FetchFault
by_tests asked again good own id got = cond (not asked) (Some BadReply) (cond again (Some BadReply) (cond (not good) (Some BadReply) (cond own None (Some (WrongHash id got)))))

module _ (asked again good own : Bool) (id got : HashId) where
  not_asked : asked ≡ false → by_tests asked again good own id got ≡ Some BadReply
  not_asked a = ap (λ b. by_tests b again good own id got) a

  come_again : asked ≡ true → again ≡ true → by_tests asked again good own id got ≡ Some BadReply
  come_again a b = ap (λ k. by_tests k again good own id got) a ∙ ap (λ k. by_tests true k good own id got) b

  so_far : asked ≡ true → again ≡ false → by_tests asked again good own id got ≡ cond (not good) (Some BadReply) (cond own None (Some (WrongHash id got)))
  so_far a b = ap (λ k. by_tests k again good own id got) a ∙ ap (λ k. by_tests true k good own id got) b

other_name : (good : Bool) (id got : HashId) → cond good (Some (WrongHash id got)) (Some BadReply) ≡ cond (not good) (Some BadReply) (cond false None (Some (WrongHash id got)))
other_name true id got = refl
other_name false id got = refl

module _ (asked before : List HashId) (object : Fetched) where
  pub fault_not_asked : is_among object.id asked ≡ false → fault_of asked before object ≡ Some BadReply
  fault_not_asked a = not_asked (is_among object.id asked) (is_among object.id before) (is_object (object_of object.octets)) (same_id object.id (named object.octets)) object.id (named object.octets) a

  pub fault_again : is_among object.id asked ≡ true → is_among object.id before ≡ true → fault_of asked before object ≡ Some BadReply
  fault_again a b = come_again (is_among object.id asked) (is_among object.id before) (is_object (object_of object.octets)) (same_id object.id (named object.octets)) object.id (named object.octets) a b

  fault_so_far : is_among object.id asked ≡ true → is_among object.id before ≡ false → fault_of asked before object ≡ cond (not (is_object (object_of object.octets))) (Some BadReply) (cond (same_id object.id (named object.octets)) None (Some (WrongHash object.id (named object.octets))))
  fault_so_far a b = so_far (is_among object.id asked) (is_among object.id before) (is_object (object_of object.octets)) (same_id object.id (named object.octets)) object.id (named object.octets) a b

  pub fault_no_object : is_among object.id asked ≡ true → is_among object.id before ≡ false → is_object (object_of object.octets) ≡ false → fault_of asked before object ≡ Some BadReply
  fault_no_object a b o = fault_so_far a b ∙ ap (λ k. cond (not k) (Some BadReply) (cond (same_id object.id (named object.octets)) None (Some (WrongHash object.id (named object.octets))))) o

  pub fault_other_name : is_among object.id asked ≡ true → is_among object.id before ≡ false → same_id object.id (named object.octets) ≡ false
      → (f : FetchFault) → cond (is_object (object_of object.octets)) (Some (WrongHash object.id (named object.octets))) (Some BadReply) ≡ Some f → fault_of asked before object ≡ Some f
  fault_other_name a b s f e =
      fault_so_far a b ∙ ap (λ k. cond (not (is_object (object_of object.octets))) (Some BadReply) (cond k None (Some (WrongHash object.id (named object.octets))))) s
      ∙ sym (other_name (is_object (object_of object.octets)) object.id (named object.octets)) ∙ e

  pub fault_none : is_among object.id asked ≡ true → is_among object.id before ≡ false → is_object (object_of object.octets) ≡ true → same_id object.id (named object.octets) ≡ true → fault_of asked before object ≡ None
  fault_none a b o s =
      fault_so_far a b ∙ ap (λ k. cond (not k) (Some BadReply) (cond (same_id object.id (named object.octets)) None (Some (WrongHash object.id (named object.octets))))) o
      ∙ ap (λ k. cond k None (Some (WrongHash object.id (named object.octets)))) s

pub read_is : (octets : List ℕ) → IsObject octets → is_object (object_of octets) ≡ true
read_is octets is = ap is_object is.read

-- ---- what is held

ok_same : (a b : HashId × Texts) → let x : Result (HashId × Texts) Refusal = Ok a in x ≡ Ok b → a ≡ b
ok_same a b e = cc e

-- what is put, where there is room
abbrev full_or : Bool → HashId × Texts → Result (HashId × Texts) Refusal
full_or b x = cond b (Err full) (Ok x)

put_last : (b : Bool) (id j : HashId) (all new : Texts) → full_or b (id, all) ≡ Ok (j, new) → new ≡ all
put_last true id j all new e = absurd (cc e)
put_last false id j all new e = sym (ap (λ (p : HashId × Texts). p.1) (ok_same (id, all) (j, new) e))

never : (b : Bool) (x : HashId × Texts) (fault : Fault) → full_or b x ≡ Err (no_object fault) → ⊥
never true x fault e = cc e
never false x fault e = cc e

-- what is added and was not held stands last
pub added_last : (held new : Texts) (octets : List ℕ) (j : HashId) → IsObject octets → found (named octets) held ≡ None → added held octets ≡ Ok (j, new) → new ≡ held ++ (named octets, octets) ∷ []
unfolding added
added_last held new octets j is none e =
    put_last (nat_le 4096 (length held)) (named octets) j (held ++ (named octets, octets) ∷ []) new (sym (ap (added_so held octets) is.read ∙ ap (put held (named octets) octets) none) ∙ e)

refused_read : (held : Texts) (octets : List ℕ) (fault : Fault) (read : Result Object Fault) → found (named octets) held ≡ None → added_so held octets read ≡ Err (no_object fault) → is_object read ≡ false
refused_read held octets fault (Ok o) none e = absurd (never (nat_le 4096 (length held)) (named octets, held ++ (named octets, octets) ∷ []) fault (sym (ap (put held (named octets) octets) none) ∙ e))
refused_read held octets fault (Err f) none e = refl

-- what is refused as no object's text is none
pub refused_as : (held : Texts) (octets : List ℕ) (fault : Fault) → found (named octets) held ≡ None → added held octets ≡ Err (no_object fault) → is_object (object_of octets) ≡ false
unfolding added
refused_as held octets fault none e = refused_read held octets fault (object_of octets) none e

past : (b : Bool) (octets : List ℕ) (o p : Option (List ℕ)) → cond b (Some octets) o ≡ None → (o ≡ None → p ≡ None) → cond b (Some octets) p ≡ None
past true octets o p e so = absurd (cc e)
past false octets o p e so = so e

found_still : (j id : HashId) (octets : List ℕ) (held : Texts) → found j held ≡ None → same_id j id ≡ false → found j (held ++ (id, octets) ∷ []) ≡ None
found_still j id octets [] none other = ap (λ b. cond b (Some octets) None) other
found_still j id octets (e ∷ held) none other = past (same_id j e.0) e.1 (found j held) (found j (held ++ (id, octets) ∷ [])) none (λ n. found_still j id octets held n other)

-- those that have not come are new still
pub new_still : (held now : Texts) (asked before then : List HashId) (id : HashId) (octets : List ℕ) → now ≡ held ++ (id, octets) ∷ [] → then ≡ before ++ id ∷ [] → AreNew held asked before → AreNew now asked then
new_still held now asked before then id octets put more new = record {
  each = λ j a n. let n' = sym (ap (is_among j) more) ∙ n in elim (decide (is_among j before)) [
    | inl b ↦ absurd (let t = among_still j id before b in cc)
    | inr b ↦ elim (same_id_tells j id) [
      | inl s ↦ absurd (let t = ap (λ i. is_among i (before ++ id ∷ [])) s.1 ∙ among_last id before in cc)
      | inr s ↦ ap (found j) put ∙ found_still j id octets held (new.each j a b) s.0
    ]
  ];
}

pub new_among : (held : Texts) (asked set before : List HashId) → ((id : HashId) → is_among id set ≡ is_among id asked) → AreNew held asked before → AreNew held set before
new_among held asked set before same new = record { each = λ id a n. new.each id (sym (same id) ∙ a) n }

or_false : (a b : Bool) → a || b ≡ true → a ≡ false → b ≡ true
or_false a b h e = sym (ap (λ (c : Bool). c || b) e) ∙ h

pub asked_each : (P : HashId → Type 0) (asked : List HashId) (id : HashId) → All P asked → is_among id asked ≡ true → P id
asked_each P [] id all h = absurd (cc h)
asked_each P (x ∷ asked) id all h = elim (same_id_tells id x) [
  | inl s ↦ subst P (sym s.1) (All-head P x asked all)
  | inr s ↦ asked_each P asked id (All-tail P x asked all) (or_false (same_id id x) (is_among id asked) h s.0)
]

pub new_asked : (held : Texts) (asked : List HashId) → All (λ id. found_in held id ≡ None) asked → AreNew held asked []
new_asked held asked all = record { each = λ id a n. asked_each (λ i. found_in held i ≡ None) asked id all a }

-- ---- one object after another

module _ (asked set before : List HashId) (objects rest after : List Fetched) (object : Fetched) where
  fault_same : ((id : HashId) → is_among id set ≡ is_among id asked) → fault_of asked before object ≡ fault_of set before object
  fault_same same = ap (λ a. by_tests a (is_among object.id before) (is_object (object_of object.octets)) (same_id object.id (named object.octets)) object.id (named object.octets)) (sym (same object.id))

  here : rest ≡ object ∷ after → ((id : HashId) → is_among id set ≡ is_among id asked) → fault_in asked [] objects ≡ fault_in asked before rest
      → fault_in asked [] objects ≡ first_fault (fault_of set before object) (fault_in asked (before ++ object.id ∷ []) after)
  here is same h = h ∙ ap (fault_in asked before) is ∙ ap (λ o. first_fault o (fault_in asked (before ++ object.id ∷ []) after)) (fault_same same)

  pub fault_here : rest ≡ object ∷ after → ((id : HashId) → is_among id set ≡ is_among id asked) → fault_in asked [] objects ≡ fault_in asked before rest → (f : FetchFault) → fault_of set before object ≡ Some f → fault_in asked [] objects ≡ Some f
  fault_here is same h f e = here is same h ∙ ap (λ o. first_fault o (fault_in asked (before ++ object.id ∷ []) after)) e

  pub fault_next : (then : List HashId) → rest ≡ object ∷ after → ((id : HashId) → is_among id set ≡ is_among id asked) → fault_of set before object ≡ None → then ≡ before ++ object.id ∷ []
      → fault_in asked [] objects ≡ fault_in asked before rest → fault_in asked [] objects ≡ fault_in asked then after
  fault_next then is same none more h =
      here is same h ∙ ap (λ o. first_fault o (fault_in asked (before ++ object.id ∷ []) after)) none ∙ ap (λ b. fault_in asked b after) (sym more)

pub fault_all : (asked before : List HashId) (objects rest : List Fetched) → rest ≡ [] → fault_in asked [] objects ≡ fault_in asked before rest → fault_in asked [] objects ≡ None
fault_all asked before objects rest none h = h ∙ ap (fault_in asked before) none

pub held_next : (first held now : Texts) (objects : List Fetched) (i j : ℕ) (object d : Fetched) → i < length objects → object ≡ get_or objects i d → j ≡ i + 1 → now ≡ held ++ text_of object ∷ [] → held ≡ first ++ map text_of (take i objects) → now ≡ first ++ map text_of (take j objects)
held_next first held now objects i j object d lt is next put h =
    put ∙ ap (λ (o : Texts). o ++ text_of object ∷ []) h ∙ append_assoc first (map text_of (take i objects)) (text_of object ∷ [])
    ∙ ap (λ (o : Fetched). first ++ (map text_of (take i objects) ++ text_of o ∷ [])) is
    ∙ ap (λ (o : Texts). first ++ o) (sym (map_more text_of objects i d lt)) ∙ ap (λ n. first ++ map text_of (take n objects)) (sym next)

pub next_object : (objects : List Fetched) (i j : ℕ) (object d : Fetched) → i < length objects → j ≡ i + 1 → object ≡ get_or objects i d → drop i objects ≡ object ∷ drop j objects
next_object objects i j object d lt next is = next_item objects i j d lt (omega arith) ∙ ap (λ (o : Fetched). o ∷ drop j objects) (sym is)

-- ---- what became of an object that was asked for and is new

pub negated : (b : Bool) → not b ≡ true → b ≡ false
negated true e = absurd (cc e)
negated false e = refl

pub affirmed : (b : Bool) → not b ≡ false → b ≡ true
affirmed true e = refl
affirmed false e = absurd (cc e)

module _ (asked before : List HashId) (held : Texts) (object : Fetched) (octets : List ℕ) (got : HashId) (is : octets ≡ object.octets) (name : got ≡ named octets) (among : is_among object.id asked ≡ true) (first : is_among object.id before ≡ false) where
  own_name : got ≡ named object.octets
  own_name = name ∙ ap named is

  -- it came under another identifier
  pub fault_misnamed : (fault : FetchFault) → same_id object.id got ≡ false → IsFault (cond (is_object (object_of octets)) (Some (WrongHash object.id got)) (Some BadReply)) fault → IsFault (fault_of asked before object) fault
  fault_misnamed fault other h =
      fault_then (cond (is_object (object_of octets)) (Some (WrongHash object.id got)) (Some BadReply)) (fault_of asked before object) fault
      (λ f e. fault_other_name asked before object among first (ap (same_id object.id) (sym own_name) ∙ other) f
      (ap₂ (λ (o : List ℕ) (g : HashId). cond (is_object (object_of o)) (Some (WrongHash object.id g)) (Some BadReply)) (sym is) (sym own_name) ∙ e)) h

  same_name : same_id object.id got ≡ true → object.id ≡ named octets
  same_name own = same_is object.id got own ∙ name

  unheld : same_id object.id got ≡ true → AreNew held asked before → found (named octets) held ≡ None
  unheld own new = ap (λ (i : HashId). found i held) (sym (same_name own)) ∙ new.each object.id among first

  -- it is no object's text
  pub fault_refused : same_id object.id got ≡ true → AreNew held asked before → (fault : Fault) → added held octets ≡ Err (no_object fault) → fault_of asked before object ≡ Some BadReply
  fault_refused own new fault e = fault_no_object asked before object among first (ap (λ (o : List ℕ). is_object (object_of o)) (sym is) ∙ refused_as held octets fault (unheld own new) e)

  -- it is held now
  pub fault_kept : same_id object.id got ≡ true → IsObject octets → fault_of asked before object ≡ None
  fault_kept own read = fault_none asked before object among first (ap (λ (o : List ℕ). is_object (object_of o)) (sym is) ∙ read_is octets read) (ap (same_id object.id) (sym own_name) ∙ own)

  pub held_kept : same_id object.id got ≡ true → AreNew held asked before → (now : Texts) (j : HashId) → IsObject octets → added held octets ≡ Ok (j, now) → now ≡ held ++ text_of object ∷ []
  held_kept own new now j read e = added_last held now octets j read (unheld own new) e ∙ ap₂ (λ (i : HashId) (o : List ℕ). held ++ (i, o) ∷ []) (sym (same_name own)) is
