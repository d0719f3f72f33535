-- The rounds of a fetch whose peer has what is asked for.
use Rattle.std.proofs.Common.{◌≡◌, ◌⊎◌, ℕ, zero, suc, ◌+◌, ◌<◌, ◌≤◌, Bool, true, false, cond, List, [], ◌∷◌, ◌++◌, map, length, Option, inl, inr, refl, sym, ap, subst, ◌∙◌, length-append, zero-add, eq-eqb, arith}
use Rattle.std.specs.Prelude.{None, Some}
use Rattle.std.proofs.lemmas.List.{length-map, map-append}
use Rattle.type_trees.specs.declared.types.HashId.{HashId}
use Rattle.type_trees.proofs.SameIds.{same_id_tells}
use Rattle.type_object.specs.Pools.{Texts, found}
use Rattle.type_object.specs.References.{is_among}
use Rattle.type_object.specs.visits.Visits.{Known}
use Rattle.type_lookup.specs.declared.messages.messages.Fetched.{Fetched}
use Rattle.type_lookup.specs.declared.messages.messages.Message.{Message}
use Rattle.type_lookup.specs.declared.messages.messages.Message.TheVariants.{GetTypes, Types}
use Rattle.type_registry.specs.Passed.{PassView, known, Keeps}
use Rattle.lookup_fetch.specs.declared.faults.FetchFault.{FetchFault}
use Rattle.lookup_fetch.specs.declared.faults.FetchFault.TheVariants.{BadReply}
use Rattle.lookup_fetch.specs.Rounds.{reached, objects_of, lacking, found_in, text_of, texts_in, objects_fault, reply_fault, End, done, stopped, waits, Rounds, asks, unless_fault, rounds, asked}
use Rattle.lookup_fetch.proofs.Rounding.{IsWhole, Asks, whole_next, ask_next, whole_rounds, last_asked, next_asked}
use Rattle.lookup_service.specs.replies.Replies.{served}
use Rattle.type_mirror.specs.told.Tells.{fetched_id}
use Rattle.type_mirror.specs.completes.Peers.{AreNamed, IsReplyOf, AreRepliesOf, EndsWell}
use Rattle.type_mirror.specs.completes.Laws.{HasMet}
use Rattle.type_mirror.proofs.OfCompletes.Among.{Within, Distinct, never, not_true, among_first, among_cases, within_both, distinct_both, no_more}
use Rattle.type_mirror.proofs.OfCompletes.Meeting.{reached_within, reached_few, each_known, as_many, Met, met_all, whole_same, Asking, asking}
use Rattle.type_mirror.proofs.OfCompletes.Serving.{AreThere, ComeNext, IsServed, is_served}

-- ---- what is held

abbrev id_of : HashId × List ℕ → HashId
id_of e = e.0

abbrev ids_of : Texts → List HashId
ids_of held = map id_of held

-- What is held is there, is met there, and none is held twice.
pub record Holding (there : Known) (met : List HashId) (held : Texts) : Type 0 where
  pub there_are : AreThere there held
  pub inside : Within (ids_of held) met
  pub distinct : Distinct (ids_of held)

same_some : (a b : List ℕ) → Some a ≡ Some b → a ≡ b
same_some a b e = cc e

there_found : (there : Known) (held : Texts) → AreThere there held → Keeps (found_in held) there
there_found there [] all id octets e = absurd (cc e)
there_found there (x ∷ held) all id octets e = elim (same_id_tells id x.0) [
  | inl t ↦ ap there t.1 ∙ all.0 ∙ sym (ap (λ (b : Bool). cond b (Some x.1) (found id held)) t.0) ∙ e
  | inr t ↦ there_found there held all.1 id octets (sym (ap (λ (b : Bool). cond b (Some x.1) (found id held)) t.0) ∙ e)
]

not_found : (held : Texts) (id : HashId) → found id held ≡ None → is_among id (ids_of held) ≡ false
not_found [] id e = refl
not_found (x ∷ held) id e = elim (same_id_tells id x.0) [
  | inl t ↦ absurd (let some = ap (λ (b : Bool). cond b (Some x.1) (found id held)) t.0 in cc)
  | inr t ↦ not_true (is_among id (ids_of (x ∷ held))) (λ h. elim (among_cases id x.0 (ids_of held) h) [
    | inl s ↦ t.1 s
    | inr s ↦ never (is_among id (ids_of held)) s (not_found held id (sym (ap (λ (b : Bool). cond b (Some x.1) (found id held)) t.0) ∙ e))
  ])
]

there_both : (there : Known) (xs ys : Texts) → AreThere there xs → AreThere there ys → AreThere there (xs ++ ys)
there_both there [] ys p q = q
there_both there (x ∷ xs) ys p q = (p.0, there_both there xs ys p.1 q)

ids_come : (objects : List Fetched) → ids_of (map text_of objects) ≡ map fetched_id objects
ids_come [] = refl
ids_come (x ∷ xs) = ap (λ (l : List HashId). x.id ∷ l) (ids_come xs)

pub held_none : (there : Known) (met : List HashId) → Holding there met []
held_none there met = record { there_are = tt; inside = λ id h. absurd (cc h); distinct = tt }

-- with what came of what was asked for
held_more : (there : Known) (met asked : List HashId) (held : Texts) (objects : List Fetched) → Holding there met held → Asking (found_in held) met asked → ComeNext there asked [] asked objects → Holding there met (held ++ map text_of objects)
held_more there met asked held objects h a c =
    let ids = map fetched_id objects in
    let same : ids_of (held ++ map text_of objects) ≡ ids_of held ++ ids = map-append id_of held (map text_of objects) ∙ ap (λ (l : List HashId). ids_of held ++ l) (ids_come objects) in
    record {
      there_are = there_both there held (map text_of objects) h.there_are c.there_are;
      inside = subst (λ (l : List HashId). Within l met) (sym same) (within_both (ids_of held) ids met h.inside (λ j b. a.inside j (c.inside j b)));
      distinct = subst Distinct (sym same) (distinct_both (ids_of held) ids h.distinct c.distinct (λ j b. not_found held j (a.new j (c.inside j b))));
    }

-- fewer are held than are met, where one that is met isn't held
held_fewer : (there : Known) (met asked : List HashId) (held : Texts) → Holding there met held → Asking (found_in held) met asked → length held < length met
held_fewer there met asked held h a =
    let among : is_among a.first asked ≡ true = ap (is_among a.first) a.some ∙ among_first a.first a.rest in
    let n = no_more (a.first ∷ ids_of held) met (not_found held a.first (a.new a.first among), h.distinct)
    (λ j b. elim (among_cases j a.first (ids_of held) b) [ inl e ↦ ap (λ i. is_among i met) e ∙ a.inside a.first among | inr t ↦ h.inside j t ]) in
    omega (arith, n, length-map held id_of)

-- ---- what comes next

module _ (there : Known) (ids : List HashId) (objects : List Fetched) (named : AreNamed there) (m : Met there ids objects) where
  abbrev pub all : List HashId
  all = reached there ids

  -- what a round asks for, of what is met
  pub record Planned (held : Texts) : Type 0 where
    pub asked : List HashId
    pub is : Asks (found_in held) ids asked
    pub asks_for : Asking (found_in held) all asked

  wider : (held : Texts) (asked : List HashId) → Holding there all held → Asking (found_in held) (reached (found_in held) ids) asked → Asking (found_in held) all asked
  wider held asked h a = record { first = a.first; rest = a.rest; some = a.some; few = a.few; inside = λ j b. reached_within (found_in held) there ids (there_found there held h.there_are) m.few j (a.inside j b); new = a.new }

  pub planned : (held : Texts) → Holding there all held → IsWhole (found_in held) ids objects ⊎ Planned held
  planned held h = by (objects_of k met) refl
    where
      k : Known
      k = found_in held

      met : List HashId
      met = reached k ids

      keeps : Keeps k there
      keeps = there_found there held h.there_are

      few : length met ≤ 4096
      few = reached_few k there ids keeps m.few

      by : (o : Option (List Fetched)) → objects_of k met ≡ o → IsWhole k ids objects ⊎ Planned held
      by None e = inr (record { asked = lacking k met; is = ask_next k ids few e; asks_for = wider held (lacking k met) h (asking k met e) })
      by (Some some) e = inl (subst (IsWhole k ids) (whole_same k there ids some objects keeps e m.all) (whole_next k ids few some e))

  -- ---- a reply to what was asked for

  -- It has no fault, and with its objects more is held.
  pub record Brings (tag : ℕ) (held : Texts) (asked : List HashId) (reply : Message) : Type 0 where
    pub good : reply_fault tag asked reply ≡ None
    pub holding : Holding there all (held ++ texts_in reply)
    pub more : suc (length held) ≤ length (held ++ texts_in reply)

  brought : (tag : ℕ) (held : Texts) (p : Planned held) (reply : Message) (objects_there : List Fetched) → Holding there all held → IsServed there p.asked objects_there → reply ≡ Types tag objects_there → Brings tag held p.asked reply
  brought tag held p reply served_there h s is =
      subst (Brings tag held p.asked) (sym is) (record {
        good = ap (λ (b : Bool). cond b (objects_fault p.asked served_there) (Some BadReply)) (eq-eqb tag tag refl) ∙ s.good;
        holding = held_more there all p.asked held served_there h p.asks_for s.come;
        more = omega (arith, length-append held (map text_of served_there), length-map served_there text_of, ap (λ (l : List Fetched). length l) s.some);
      })

  -- what is served of what was asked for
  pub served_asked : (tag : ℕ) (held : Texts) (p : Planned held) (reply : Message) (r : IsReplyOf there (GetTypes tag p.asked) reply) → IsServed there p.asked (served (known r.now) p.asked)
  served_asked tag held p reply r =
      is_served there (known r.now) p.asked p.asks_for.rest p.asks_for.first (record { named = named; each = λ id a. each_known there all objects m.all id (p.asks_for.inside id a); same = r.knows }) p.asks_for.some

  pub reply_brings : (tag : ℕ) (held : Texts) (p : Planned held) (reply : Message) → Holding there all held → IsReplyOf there (GetTypes tag p.asked) reply → Brings tag held p.asked reply
  reply_brings tag held p reply h r = brought tag held p reply (served (known r.now) p.asked) h (served_asked tag held p reply r) r.replies

  pub goes_on : (tag : ℕ) (held : Texts) (p : Planned held) (reply : Message) (replies : List Message) → Brings tag held p.asked reply
      → rounds ids tag held (reply ∷ replies) ≡ asks (GetTypes tag p.asked ∷ []) (rounds ids (tag + 1) (held ++ texts_in reply) replies)
  goes_on tag held p reply replies b =
      next_asked ids tag held reply replies p.asked p.is ∙ ap (λ (o : Option FetchFault). asks (GetTypes tag p.asked ∷ []) (unless_fault o (rounds ids (tag + 1) (held ++ texts_in reply) replies))) b.good

  -- ---- how the rounds end

  pub fewer : (held : Texts) → Planned held → Holding there all held → length held < length objects
  fewer held p h = let n = held_fewer there all p.asked held h p.asks_for in omega (arith, n, as_many there all objects m.all)

  ends_still : (few many : ℕ) (end : End) → few ≤ many → EndsWell objects many end → EndsWell objects few end
  ends_still few many (done others) le e = e
  ends_still few many (stopped fault) le e = e
  ends_still few many waits le e = omega (arith, le, e)

  abbrev EndsBy : ℕ → Rounds → Type 0
  EndsBy count after = EndsWell objects count after.end

  at_last : (tag : ℕ) (held : Texts) → Holding there all held → IsWhole (found_in held) ids objects ⊎ Planned held → EndsBy (length held + 0) (rounds ids tag held [])
  at_last tag held h (inl e) = subst (EndsBy (length held + 0)) (sym (whole_rounds ids tag held [] objects e)) refl
  at_last tag held h (inr p) = subst (EndsBy (length held + 0)) (sym (last_asked ids tag held p.asked p.is)) (let n = fewer held p h in omega (arith, n))

  at_reply : (tag : ℕ) (held : Texts) (reply : Message) (replies : List Message) → Holding there all held → IsWhole (found_in held) ids objects ⊎ Planned held
      → (let after = rounds ids (tag + 1) (held ++ texts_in reply) replies in Holding there all (held ++ texts_in reply) → AreRepliesOf there after.requests replies → EndsBy (length (held ++ texts_in reply) + length replies) after)
      → AreRepliesOf there (rounds ids tag held (reply ∷ replies)).requests (reply ∷ replies) → EndsBy (length held + suc (length replies)) (rounds ids tag held (reply ∷ replies))
  at_reply tag held reply replies h (inl e) later r = subst (EndsBy (length held + suc (length replies))) (sym (whole_rounds ids tag held (reply ∷ replies) objects e)) refl
  at_reply tag held reply replies h (inr p) later r =
      let after = rounds ids (tag + 1) (held ++ texts_in reply) replies in
      let first = subst (λ (a : Rounds). AreRepliesOf there a.requests (reply ∷ replies)) (next_asked ids tag held reply replies p.asked p.is) r in
      let b = reply_brings tag held p reply h first.0 in
      let same = goes_on tag held p reply replies b in
      let rest = subst (λ (a : Rounds). AreRepliesOf there a.requests (reply ∷ replies)) same r in
      subst (EndsBy (length held + suc (length replies))) (sym same)
      (ends_still (length held + suc (length replies)) (length (held ++ texts_in reply) + length replies) after.end (omega (arith, b.more)) (later b.holding rest.1))

  end_so : (messages : List Message) (tag : ℕ) (held : Texts) → Holding there all held → AreRepliesOf there (rounds ids tag held messages).requests messages → EndsBy (length held + length messages) (rounds ids tag held messages)
  end_so [] tag held h r = at_last tag held h (planned held h)
  end_so (reply ∷ replies) tag held h r = at_reply tag held reply replies h (planned held h) (λ g q. end_so replies (tag + 1) (held ++ texts_in reply) g q) r

-- The rounds end well, whatever came of the replies.
pub end_well : (there : Known) (ids : List HashId) (objects : List Fetched) (messages : List Message) → HasMet there ids objects → AreRepliesOf there (asked ids messages) messages → EndsWell objects (length messages) (rounds ids 1 [] messages).end
end_well there ids objects messages has r =
    let m = met_all there ids objects has.whole in
    subst (λ n. EndsWell objects n (rounds ids 1 [] messages).end) (zero-add (length messages)) (end_so there ids objects has.named m messages 1 [] (held_none there (reached there ids)) r)

-- ---- replies by which they are done

module _ (pass : PassView) (ids : List HashId) (objects : List Fetched) (named : AreNamed (known pass)) (m : Met (known pass) ids objects) where
  -- These replies, at most so many, end the rounds.
  record EndedBy (tag : ℕ) (held : Texts) (most : ℕ) : Type 0 where
    messages : List Message
    few : length messages ≤ most
    replies : AreRepliesOf (known pass) (rounds ids tag held messages).requests messages
    end_is : (rounds ids tag held messages).end ≡ done objects

  ended_now : (tag : ℕ) (held : Texts) (most : ℕ) → IsWhole (found_in held) ids objects → EndedBy tag held most
  ended_now tag held most e = record { messages = []; few = omega arith; replies = tt; end_is = ap (λ (r : Rounds). r.end) (whole_rounds ids tag held [] objects e) }

  abbrev there : Known
  there = known pass

  ended_later : (tag : ℕ) (held : Texts) (most : ℕ) → Holding there (reached there ids) held → Planned there ids objects named m held
      → ((held_now : Texts) → Holding there (reached there ids) held_now → suc (length held) ≤ length held_now → EndedBy (tag + 1) held_now most) → EndedBy tag held (suc most)
  ended_later tag held most h p later =
      let reply = Types tag (served there p.asked) in
      let is_reply : IsReplyOf there (GetTypes tag p.asked) reply = record { before = there; now = pass; knows = λ id octets a e. e; replies = refl } in
      let b = reply_brings there ids objects named m tag held p reply h is_reply in
      let l = later (held ++ texts_in reply) b.holding b.more in
      let same = goes_on there ids objects named m tag held p reply l.messages b in
      record {
        messages = reply ∷ l.messages;
        few = omega (arith, l.few);
        replies = subst (λ (a : Rounds). AreRepliesOf there a.requests (reply ∷ l.messages)) (sym same) (is_reply, l.replies);
        end_is = ap (λ (a : Rounds). a.end) same ∙ l.end_is;
      }

  ended : (most tag : ℕ) (held : Texts) → Holding there (reached there ids) held → length objects ≤ length held + most → EndedBy tag held most
  ended zero tag held h le = elim (planned there ids objects named m held h) [
    | inl e ↦ ended_now tag held 0 e
    | inr p ↦ absurd (let n = fewer there ids objects named m held p h in omega (arith, n, le))
  ]
  ended (suc most) tag held h le = elim (planned there ids objects named m held h) [
    | inl e ↦ ended_now tag held (suc most) e
    | inr p ↦ ended_later tag held most h p (λ now g more. ended most (tag + 1) now g (omega (arith, le, more)))
  ]

pub some_end : (pass : PassView) (ids : List HashId) (objects : List Fetched) → HasMet (known pass) ids objects → (messages : List Message) × (length messages ≤ length objects) × AreRepliesOf (known pass) (asked ids messages) messages × ((rounds ids 1 [] messages).end ≡ done objects)
some_end pass ids objects has =
    let e = ended pass ids objects has.named (met_all (known pass) ids objects has.whole) (length objects) 1 [] (held_none (known pass) (reached (known pass) ids)) (omega arith) in
    (e.messages, e.few, e.replies, e.end_is)
