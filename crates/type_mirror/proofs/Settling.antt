-- Outcomes, one after another.
use Rattle.std.proofs.Common.{◌≡◌, ℕ, suc, ◌<◌, Bool, true, false, cond, List, [], ◌∷◌, ◌++◌, length, take, drop, get_or, Option, sym, ap, ap₂, subst, ◌∙◌}
use Rattle.std.specs.Prelude.{None, Ok, Err, nat_eq}
use Rattle.type_object.proofs.OfVisits.Left.{next_item}
use Rattle.type_lookup.specs.declared.messages.messages.Fetched.{Fetched}
use Rattle.type_mirror.specs.declared.told.told.Told.{Told}
use Rattle.type_mirror.specs.declared.told.told.What.{What}
use Rattle.type_mirror.specs.declared.told.told.PushFault.{PushFault}
use Rattle.type_mirror.specs.told.Rounds.{Outcome, State, told_as, what_of, settled, start, batch, count_of, paired, put_request, request}
use Rattle.type_mirror.specs.told.Pushes.{PushesFrom}
use Rattle.type_mirror.specs.Steps.{GoingOver}
use Rattle.type_mirror.proofs.Going.{over_none, over_more, over_end, over_all_told}

module _ (told : List Told) (object : Fetched) (n : ℕ) (later : List Outcome) (rest : List Fetched) where
  abbrev asking : State
  asking = record { told = told; asking = record { object = object; outcome = n } ∷ later; rest = rest }

  abbrev then : State
  then = settled (told ++ told_as object.id (what_of n)) later rest

  -- an outcome that is told at once
  settled_on : nat_eq n 3 ≡ false → settled told (record { object = object; outcome = n } ∷ later) rest ≡ then
  settled_on e = ap (λ (b : Bool). cond b asking then) e

  -- one that is asked for
  settled_at : nat_eq n 3 ≡ true → settled told (record { object = object; outcome = n } ∷ later) rest ≡ asking
  settled_at e = ap (λ (b : Bool). cond b asking then) e

  pub over_told : (name : List ℕ → List ℕ) (tag : ℕ) (what : What) (g l t : Option (List ℕ)) → nat_eq n 3 ≡ false → what_of n ≡ what
      → GoingOver name tag (settled told (record { object = object; outcome = n } ∷ later) rest) tag (settled (told ++ told_as object.id what) later rest) g g l l t t
  over_told name tag what g l t e is =
      subst (λ (w : What). GoingOver name tag (settled told (record { object = object; outcome = n } ∷ later) rest) tag (settled (told ++ told_as object.id w) later rest) g g l l t t) is
      (subst (λ (s : State). GoingOver name tag (settled told (record { object = object; outcome = n } ∷ later) rest) tag s g g l l t t) (settled_on e)
      (over_none name tag (settled told (record { object = object; outcome = n } ∷ later) rest) g l t))

  pub over_clash : (name : List ℕ → List ℕ) (tag now : ℕ) (next : State) (g h l m t u : Option (List ℕ)) → nat_eq n 3 ≡ true → GoingOver name tag asking now next g h l m t u
      → GoingOver name tag (settled told (record { object = object; outcome = n } ∷ later) rest) now next g h l m t u
  over_clash name tag now next g h l m t u e r = subst (λ (s : State). GoingOver name tag s now next g h l m t u) (sym (settled_at e)) r

  pub over_no_clash : (name : List ℕ → List ℕ) (tag : ℕ) (fault : PushFault) (g h l m t u : Option (List ℕ)) → nat_eq n 3 ≡ true → PushesFrom name tag asking g h l m t u (Err fault)
      → PushesFrom name tag (settled told (record { object = object; outcome = n } ∷ later) rest) g h l m t u (Err fault)
  over_no_clash name tag fault g h l m t u e r = subst (λ (s : State). PushesFrom name tag s g h l m t u (Err fault)) (sym (settled_at e)) r

-- ---- one outcome after another

paired_next : (os : List Fetched) (ns : List ℕ) (i k : ℕ) (o : Fetched) (n : ℕ) → i < length os → i < length ns → k ≡ suc i → o ≡ get_or os i o → n ≡ get_or ns i 0
    → paired (drop i os) (drop i ns) ≡ record { object = o; outcome = n } ∷ paired (drop k os) (drop k ns)
paired_next os ns i k o n in_os in_ns next is_o is_n =
    ap₂ paired (next_item os i k o in_os next ∙ ap (λ (x : Fetched). x ∷ drop k os) (sym is_o)) (next_item ns i k 0 in_ns next ∙ ap (λ m. m ∷ drop k ns) (sym is_n))

module _ (name : List ℕ → List ℕ) (first told : List Told) (os : List Fetched) (ns : List ℕ) (i k : ℕ) (o : Fetched) (n : ℕ) (in_os : i < length os) (in_ns : i < length ns) (next : k ≡ suc i) (is_o : o ≡ get_or os i o) (is_n : n ≡ get_or ns i 0)
    (rest : List Fetched) (start tag : ℕ) (g h j l m p t u v : Option (List ℕ)) (before : GoingOver name start (settled first (paired os ns) rest) tag (settled told (paired (drop i os) (drop i ns)) rest) g h l m t u) where
  here : GoingOver name start (settled first (paired os ns) rest) tag (settled told (record { object = o; outcome = n } ∷ paired (drop k os) (drop k ns)) rest) g h l m t u
  here = subst (λ (x : List Outcome). GoingOver name start (settled first (paired os ns) rest) tag (settled told x rest) g h l m t u) (paired_next os ns i k o n in_os in_ns next is_o is_n) before

  pub over_next : (now : ℕ) (told_now : List Told) (what : What) → told_now ≡ told ++ told_as o.id what
      → GoingOver name tag (settled told (record { object = o; outcome = n } ∷ paired (drop k os) (drop k ns)) rest) now (settled (told ++ told_as o.id what) (paired (drop k os) (drop k ns)) rest) h j m p u v
      → GoingOver name start (settled first (paired os ns) rest) now (settled told_now (paired (drop k os) (drop k ns)) rest) g j l p t v
  over_next now told_now what put r =
      subst (λ (x : List Told). GoingOver name start (settled first (paired os ns) rest) now (settled x (paired (drop k os) (drop k ns)) rest) g j l p t v) (sym put)
      (over_more name start tag (settled first (paired os ns) rest) (settled told (record { object = o; outcome = n } ∷ paired (drop k os) (drop k ns)) rest) g h j l m p t u v here now (settled (told ++ told_as o.id what) (paired (drop k os) (drop k ns)) rest) r)

  pub over_stopped : (fault : PushFault) → PushesFrom name tag (settled told (record { object = o; outcome = n } ∷ paired (drop k os) (drop k ns)) rest) h j m p u v (Err fault)
      → PushesFrom name start (settled first (paired os ns) rest) g j l p t v (Err fault)
  over_stopped fault r = over_end name start tag (settled first (paired os ns) rest) (settled told (record { object = o; outcome = n } ∷ paired (drop k os) (drop k ns)) rest) g h j l m p t u v here (Err fault) r

-- no outcome is left
pub over_last : (name : List ℕ → List ℕ) (start tag : ℕ) (first : State) (told : List Told) (left : List Fetched) (ns : List ℕ) (rest : List Fetched) (g h l m t u : Option (List ℕ)) → left ≡ [] → GoingOver name start first tag (settled told (paired left ns) rest) g h l m t u
    → GoingOver name start first tag (record { told = told; asking = []; rest = rest }) g h l m t u
over_last name start tag first told left ns rest g h l m t u none before = subst (λ (x : List Fetched). GoingOver name start first tag (settled told (paired x ns) rest) g h l m t u) none before

-- ---- one request to put objects after another

module _ (name : List ℕ → List ℕ) (tag then : ℕ) (told : List Told) (objects slice : List Fetched) (outcomes octets : List ℕ) (count : ℕ) (long : length outcomes ≡ count_of objects) (is : count ≡ length outcomes) (cut : slice ≡ take count objects) (same : octets ≡ outcomes)
    (g h j l m p t u v : Option (List ℕ)) (before : GoingOver name tag (record { told = told; asking = []; rest = objects }) then (settled told (paired (batch objects) outcomes) (drop (count_of objects) objects)) g h l m t u) where
  state_is : settled told (paired (batch objects) outcomes) (drop (count_of objects) objects) ≡ settled told (paired slice octets) (drop count objects)
  state_is =
      ap₂ (λ (a : List Fetched) (b : List ℕ). settled told (paired a b) (drop (count_of objects) objects)) (ap (λ n. take n objects) (sym long ∙ sym is) ∙ sym cut) (sym same)
      ∙ ap (λ n. settled told (paired slice octets) (drop n objects)) (sym long ∙ sym is)

  put_so : GoingOver name tag (record { told = told; asking = []; rest = objects }) then (settled told (paired slice octets) (drop count objects)) g h l m t u
  put_so = subst (λ (s : State). GoingOver name tag (record { told = told; asking = []; rest = objects }) then s g h l m t u) state_is before

  pub over_batch : (now : ℕ) (told_now : List Told) → GoingOver name then (settled told (paired slice octets) (drop count objects)) now (record { told = told_now; asking = []; rest = drop count objects }) h j m p u v
      → GoingOver name tag (record { told = told; asking = []; rest = objects }) now (record { told = told_now; asking = []; rest = drop count objects }) g j l p t v
  over_batch now told_now r = over_more name tag then (record { told = told; asking = []; rest = objects }) (settled told (paired slice octets) (drop count objects)) g h j l m p t u v put_so now (record { told = told_now; asking = []; rest = drop count objects }) r

  pub over_no_batch : (fault : PushFault) → PushesFrom name then (settled told (paired slice octets) (drop count objects)) h j m p u v (Err fault) → PushesFrom name tag (record { told = told; asking = []; rest = objects }) g j l p t v (Err fault)
  over_no_batch fault r = over_end name tag then (record { told = told; asking = []; rest = objects }) (settled told (paired slice octets) (drop count objects)) g h j l m p t u v put_so (Err fault) r

-- ---- the whole push

pub over_start : (name : List ℕ → List ℕ) (told : List Told) (objects rest : List Fetched) (g l t : Option (List ℕ)) → told ≡ [] → rest ≡ objects → GoingOver name 1 (start objects) 1 (record { told = told; asking = []; rest = rest }) g g l l t t
over_start name told objects rest g l t none is =
    subst (λ (x : List Told). GoingOver name 1 (start objects) 1 (record { told = x; asking = []; rest = rest }) g g l l t t) (sym none)
    (subst (λ (x : List Fetched). GoingOver name 1 (start objects) 1 (record { told = []; asking = []; rest = x }) g g l l t t) (sym is) (over_none name 1 (start objects) g l t))

pub over_rest : (name : List ℕ → List ℕ) (first : State) (tag now : ℕ) (told told_now : List Told) (rest left : List Fetched) (count : ℕ) (g h j l m p t u v : Option (List ℕ)) → left ≡ drop count rest → GoingOver name 1 first tag (record { told = told; asking = []; rest = rest }) g h l m t u
    → GoingOver name tag (record { told = told; asking = []; rest = rest }) now (record { told = told_now; asking = []; rest = drop count rest }) h j m p u v → GoingOver name 1 first now (record { told = told_now; asking = []; rest = left }) g j l p t v
over_rest name first tag now told told_now rest left count g h j l m p t u v is before r =
    subst (λ (x : List Fetched). GoingOver name 1 first now (record { told = told_now; asking = []; rest = x }) g j l p t v) (sym is)
    (over_more name 1 tag first (record { told = told; asking = []; rest = rest }) g h j l m p t u v before now (record { told = told_now; asking = []; rest = drop count rest }) r)

none_left : (tag : ℕ) (told : List Told) (rest : List Fetched) → rest ≡ [] → request tag (record { told = told; asking = []; rest = rest }) ≡ None
none_left tag told rest none = ap (put_request tag) none

-- all is told
pub over_told_all : (name : List ℕ → List ℕ) (first : State) (tag : ℕ) (told : List Told) (rest : List Fetched) (g h l m t u : Option (List ℕ)) → rest ≡ [] → GoingOver name 1 first tag (record { told = told; asking = []; rest = rest }) g h l m t u
    → PushesFrom name 1 first g h l m t u (Ok told)
over_told_all name first tag told rest g h l m t u none before =
    over_end name 1 tag first (record { told = told; asking = []; rest = rest }) g h h l m m t u u before (Ok told) (over_all_told name tag (record { told = told; asking = []; rest = rest }) h m u (none_left tag told rest none))
