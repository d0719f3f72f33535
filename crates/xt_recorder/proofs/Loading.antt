-- Object records, replayed one after another over a pool that has no other texts under their identifiers.
use Rattle.std.proofs.Common.{◌≡◌, ℕ, ◌+◌, ◌≤◌, ◌<◌, Bool, true, false, cond, List, [], ◌∷◌, ◌++◌, map, length, Option, Some, None, Result, Ok, Err, inl, inr, refl, sym, ap, subst, ◌∙◌, length-append, arith}
use Rattle.std.specs.Prelude.{nat_le}
use Rattle.std.proofs.lemmas.Slice.Eq.{bytes_eq-Decides}
use Rattle.type_trees.specs.declared.types.HashId.{HashId}
use Rattle.type_trees.specs.Ids.{same_id}
use Rattle.type_trees.specs.Trees.{Tree}
use Rattle.type_trees.proofs.SameIds.{same_is, same_id_itself}
use Rattle.type_object.specs.Pools as pools
use Rattle.type_object.specs.Pools.{Texts, IsPool, IsObject, found, put, added}
use Rattle.type_object.proofs.Added.{added_is}
use Rattle.type_object.proofs.Pooled.{found_own, found_object}
use Rattle.xt_io.specs.declared.Item.{Item}
use Rattle.xt_io.specs.declared.Kind.{Kind}
use Rattle.xt_recorder.specs.Replays.{State, Stream, Answer, Answers, nothing, object_taken, taken_as, taken, replay_from}
use Rattle.xt_recorder.specs.Laws.{AreObjects}
use Rattle.xt_recorder.proofs.Among.{AllIn, all_none, first_or_later}
use Rattle.xt_recorder.proofs.Called.{in_front, one_step}

-- ---- what is found with one text more

pub found_still : (i : HashId) (a b : Texts) (x : List ℕ) → found i a ≡ Some x → found i (a ++ b) ≡ Some x
found_still i [] b x e = absurd (cc e)
found_still i (p ∷ a) b x e = by (same_id i p.0) (found_still i a b x) e
  where
    by : (c : Bool) → (found i a ≡ Some x → found i (a ++ b) ≡ Some x) → cond c (Some p.1) (found i a) ≡ Some x → cond c (Some p.1) (found i (a ++ b)) ≡ Some x
    by true later h = h
    by false later h = later h

found_behind : (i : HashId) (a b : Texts) → found i a ≡ None → found i (a ++ b) ≡ found i b
found_behind i [] b e = refl
found_behind i (p ∷ a) b e = by (same_id i p.0) (found_behind i a b) e
  where
    by : (c : Bool) → (found i a ≡ None → found i (a ++ b) ≡ found i b) → cond c (Some p.1) (found i a) ≡ None → cond c (Some p.1) (found i (a ++ b)) ≡ found i b
    by true later h = absurd (cc h)
    by false later h = later h

abbrev pub Stays : Texts → Texts → Type 0
Stays old new = (i : HashId) (x : List ℕ) → found i old ≡ Some x → found i new ≡ Some x

abbrev pub Agree : Texts → Texts → Type 0
Agree a b = (i : HashId) (x y : List ℕ) → found i a ≡ Some x → found i b ≡ Some y → x ≡ y

-- answers in front of what is replayed
abbrev pub behind : List Answer → Answers → Answers
behind xs found = (xs ++ found.0, found.1)

module _ (pool : Texts) (pooled : IsPool pool) where
  -- the pool behind a text that was there, or is added
  record Next (old : Texts) (id : HashId) (bs : List ℕ) : Type 0 where
    new : Texts
    is : added old bs ≡ Ok (id, new)
    stays : Stays old new
    has : found id new ≡ Some bs
    agree : Agree new pool
    few : length new ≤ length old + 1

  module _ (old : Texts) (id : HashId) (bs : List ℕ) (text : found id pool ≡ Some bs) (agree : Agree old pool) where
    added_as : (answer : Result (HashId × Texts) pools.Refusal) → put old id bs (found id old) ≡ answer → added old bs ≡ answer
    added_as answer e = added_is old bs id answer (found_object pool id bs pooled text) (found_own pool id bs pooled text) e

    agree_more : found id old ≡ None → Agree (old ++ (id, bs) ∷ []) pool
    agree_more absent i x y e f = by (found i old) refl
      where
        last : (c : Bool) → same_id i id ≡ c → cond c (Some bs) None ≡ Some x → x ≡ y
        last true is h = (let one : bs ≡ x = cc h in let two : Some bs ≡ Some y = sym text ∙ ap (λ j. found j pool) (sym (same_is i id is)) ∙ f in let three : bs ≡ y = cc two in sym one ∙ three)
        last false is h = absurd (cc h)

        by : (there : Option (List ℕ)) → found i old ≡ there → x ≡ y
        by None none = last (same_id i id) refl (sym (found_behind i old ((id, bs) ∷ []) none) ∙ e)
        by (Some z) some = agree i x y (some ∙ sym (found_still i old ((id, bs) ∷ []) z some) ∙ e) f

    next_new : found id old ≡ None → length old < 4096 → Next old id bs
    next_new absent room = record {
      new = old ++ (id, bs) ∷ [];
      is = added_as (Ok (id, old ++ (id, bs) ∷ [])) (ap (put old id bs) absent ∙ ap (λ b. cond b (Err pools.full) (Ok (id, old ++ (id, bs) ∷ []))) (fits (length old) room));
      stays = λ i x e. found_still i old ((id, bs) ∷ []) x e;
      has = found_behind id old ((id, bs) ∷ []) absent ∙ ap (λ b. cond b (Some bs) None) (same_id_itself id);
      agree = agree_more absent;
      few = omega (arith, length-append old ((id, bs) ∷ []));
    }
      where
        fits : (n : ℕ) → n < 4096 → nat_le 4096 n ≡ false
        fits n lt = grind (arith, lt)

    next_there : (there : List ℕ) → found id old ≡ Some there → Next old id bs
    next_there there e =
        let same : there ≡ bs = agree id there bs e text in
        record {
          new = old;
          is = added_as (Ok (id, old)) (ap (put old id bs) e ∙ ap (λ (b : Bool). cond b (Ok (id, old)) (Err (pools.clash id))) ((bytes_eq-Decides there bs).1 same));
          stays = λ i x h. h;
          has = e ∙ ap (λ (x : List ℕ). Some x) same;
          agree = agree;
          few = omega arith;
        }

    next_text : length old < 4096 → Next old id bs
    next_text room = by (found id old) refl
      where
        by : (there : Option (List ℕ)) → found id old ≡ there → Next old id bs
        by None e = next_new e room
        by (Some there) e = next_there there e

  -- ---- one after another

  -- the pool behind these records, of which nothing is told
  pub record Loaded (start : Texts) (ids : List HashId) (items : List Item) : Type 0 where
    pub after : Texts
    pub stays : Stays start after
    pub has : AllIn (λ i. found i after ≡ found i pool) ids
    pub goes : (reader : Tree) (stream : Option Stream) (rest : List Item) → replay_from reader (record { pool = start; stream = stream }) (items ++ rest) ≡ behind (map (λ item. nothing) items) (replay_from reader (record { pool = after; stream = stream }) rest)

  object_step : (reader : Tree) (start new : Texts) (stream : Option Stream) (id : HashId) (item : Item) → item.kind ≡ Kind.Object → added start item.payload ≡ Ok (id, new)
      → taken reader (record { pool = start; stream = stream }) item ≡ Ok (nothing, record { pool = new; stream = stream })
  object_step reader start new stream id item kind is =
      let s : State = record { pool = start; stream = stream } in
      ap (λ (k : Kind). taken_as k reader s item.payload) kind ∙ ap (object_taken s) is

  pub loaded : (ids : List HashId) (items : List Item) → AreObjects pool ids items → (start : Texts) → Agree start pool → length start + length ids ≤ 4096 → Loaded start ids items
  loaded [] [] are start agree room = record { after = start; stays = λ i x e. e; has = all_none (λ i. found i start ≡ found i pool); goes = λ reader stream rest. refl }
  loaded [] (item ∷ items) are start agree room = absurd are
  loaded (id ∷ ids) [] are start agree room = absurd are
  loaded (id ∷ ids) (item ∷ items) are start agree room =
      let one = next_text start id item.payload are.1 agree (omega arith) in
      let rest = loaded ids items are.2 one.new one.agree (omega (arith, one.few)) in
      record {
        after = rest.after;
        stays = λ i x e. rest.stays i x (one.stays i x e);
        has = λ i m. elim (first_or_later i id ids m) [ inl e ↦ subst (λ k. found k rest.after ≡ found k pool) (sym e) (rest.stays id item.payload one.has ∙ sym are.1) | inr e ↦ rest.has i e ];
        goes = λ reader stream more. one_step reader (record { pool = start; stream = stream }) item (items ++ more) (Ok (nothing, record { pool = one.new; stream = stream })) (object_step reader start one.new stream id item are.0 one.is)
            ∙ ap (in_front nothing) (rest.goes reader stream more);
      }
