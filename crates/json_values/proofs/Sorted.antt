-- The members of an object in the order of their names, and that they are read back so.
use Rattle.std.proofs.Common.{◌≡◌, refl, ℕ, suc, ◌^◌, ◌<◌, pos, negsuc, List, Some, Ordering, Less, Equal, Greater, option_map, option_and_then, max, sym, ap, ap₂, ◌∙◌}
use Rattle.std.specs.Bool.{⊤}
use Rattle.std.specs.Cmp.Lexicographic.{slice_cmp}
use Rattle.std.specs.Ordering.{nat_cmp, match_ordering, ordering_reverse}
use Rattle.std.proofs.lemmas.Cmp.{nat_list_cmp_total}
use Rattle.json.specs.Tree as tree
use Rattle.serde_json.specs.Data.{Num, unsigned, negative, float, Data, null, boolean, number, string, array, object, Items, no_items, item, Members, no_members, member, put, depth, items_depth, members_depth}
use Rattle.serde_json.specs.Read.{number_of, of_json, of_items, of_members}
use Rattle.serde_json.specs.Written.{number_text, outline, items_outline, members_outline}
use Rattle.serde_json.proofs.Numbers.{number_of-decimal, number_of-negative}

abbrev order : List ℕ → List ℕ → Ordering
order = slice_cmp nat_cmp

abbrev pub AllAbove : List ℕ → Members → Type 0
AllAbove k no_members = ⊤
AllAbove k (member l e ms) = (slice_cmp nat_cmp k l ≡ Less) × AllAbove k ms

abbrev pub Sorted : Members → Type 0
Sorted no_members = ⊤
Sorted (member k d ms) = AllAbove k ms × Sorted ms

above_trans : (k l : List ℕ) (ms : Members) → order k l ≡ Less → AllAbove l ms → AllAbove k ms
above_trans k l no_members kl all = tt
above_trans k l (member m e ms) kl all = (nat_list_cmp_total.trans k l m kl all.0, above_trans k l ms kl all.1)

above_by : (x : List ℕ) (o : Ordering) (a b c : Members) → AllAbove x a → AllAbove x b → AllAbove x c → AllAbove x (match_ordering o a b c)
above_by x Less a b c ha hb hc = ha
above_by x Equal a b c ha hb hc = hb
above_by x Greater a b c ha hb hc = hc

above_put : (x k : List ℕ) (d : Data) (ms : Members) → order x k ≡ Less → AllAbove x ms → AllAbove x (put k d ms)
above_put x k d no_members xk all = (xk, tt)
above_put x k d (member l e ms) xk all =
    above_by x (order k l) (member k d (member l e ms)) (member l d ms) (member l e (put k d ms)) (xk, all) (all.0, all.1) (all.0, above_put x k d ms xk all.1)

turned : (k l : List ℕ) (o : Ordering) → order k l ≡ o → order l k ≡ ordering_reverse o
turned k l o is = nat_list_cmp_total.antisymm l k ∙ ap ordering_reverse is

sorted_by : (o : Ordering) (k : List ℕ) (d : Data) (l : List ℕ) (e : Data) (ms : Members) → order k l ≡ o → AllAbove l ms → Sorted ms → Sorted (put k d ms)
    → Sorted (match_ordering o (member k d (member l e ms)) (member l d ms) (member l e (put k d ms)))
sorted_by Less k d l e ms is all sorted more = ((is, above_trans k l ms is all), (all, sorted))
sorted_by Equal k d l e ms is all sorted more = (all, sorted)
sorted_by Greater k d l e ms is all sorted more = (above_put l k d ms (turned k l Greater is) all, more)

pub sorted_put : (k : List ℕ) (d : Data) (ms : Members) → Sorted ms → Sorted (put k d ms)
sorted_put k d no_members sorted = (tt, tt)
sorted_put k d (member l e ms) sorted = sorted_by (order k l) k d l e ms refl sorted.0 sorted.1 (sorted_put k d ms sorted.1)

-- ---- reading members one after another

abbrev joined : Members → Members → Members
joined no_members ms = ms
joined (member k d done) ms = member k d (joined done ms)

abbrev AllBelow : List ℕ → Members → Type 0
AllBelow k no_members = ⊤
AllBelow k (member l e ms) = (order k l ≡ Greater) × AllBelow k ms

abbrev Over : Members → Members → Type 0
Over done no_members = ⊤
Over done (member k d ms) = AllBelow k done × Over done ms

put_end : (k : List ℕ) (d : Data) (done : Members) → AllBelow k done → put k d done ≡ joined done (member k d no_members)
put_end k d no_members below = refl
put_end k d (member l e done) below = rw below.0 (ap (member l e) (put_end k d done below.1))

joined_one : (done : Members) (k : List ℕ) (d : Data) (ms : Members) → joined (joined done (member k d no_members)) ms ≡ joined done (member k d ms)
joined_one no_members k d ms = refl
joined_one (member l e done) k d ms = ap (member l e) (joined_one done k d ms)

joined_none : (done : Members) → joined done no_members ≡ done
joined_none no_members = refl
joined_none (member l e done) = ap (member l e) (joined_none done)

below_joined : (x : List ℕ) (done : Members) (k : List ℕ) (d : Data) → AllBelow x done → order x k ≡ Greater → AllBelow x (joined done (member k d no_members))
below_joined x no_members k d below xk = (xk, tt)
below_joined x (member l e done) k d below xk = (below.0, below_joined x done k d below.1 xk)

over_joined : (done : Members) (k : List ℕ) (d : Data) (ms : Members) → Over done ms → AllAbove k ms → Over (joined done (member k d no_members)) ms
over_joined done k d no_members over above = tt
over_joined done k d (member l e ms) over above = (below_joined l done k d over.0 (turned k l Less above.0), over_joined done k d ms over.1 above.1)

over_none : (ms : Members) → Over no_members ms
over_none no_members = tt
over_none (member k d ms) = (tt, over_none ms)

-- ---- data without floats, its objects in order

abbrev pub FineNum : Num → Type 0
FineNum (unsigned n) = n < 2 ^ 64
FineNum (negative (pos n)) = ⊥
FineNum (negative (negsuc n)) = n < 2 ^ 63
FineNum (float x) = ⊥

abbrev mutual
  pub Fine : Data → Type 0
  Fine null = ⊤
  Fine (boolean b) = ⊤
  Fine (number n) = FineNum n
  Fine (string s) = ⊤
  Fine (array ds) = FineItems ds
  Fine (object ms) = Sorted ms × FineMembers ms

  pub FineItems : Items → Type 0
  FineItems no_items = ⊤
  FineItems (item d ds) = Fine d × FineItems ds

  pub FineMembers : Members → Type 0
  FineMembers no_members = ⊤
  FineMembers (member k d ms) = Fine d × FineMembers ms

number_back : (n : Num) → FineNum n → number_of (number_text n) ≡ Some n
number_back (unsigned n) h = number_of-decimal n h
number_back (negative (pos n)) h = absurd h
number_back (negative (negsuc n)) h = number_of-negative n h
number_back (float x) h = absurd h

mutual
  pub json_back : (d : Data) → Fine d → of_json (outline d) ≡ Some d
  json_back null h = refl
  json_back (boolean b) h = refl
  json_back (number n) h = ap (option_map number) (number_back n h)
  json_back (string s) h = refl
  json_back (array ds) h = ap (option_map array) (items_back ds h)
  json_back (object ms) h = ap (option_map object) (members_back no_members ms h.1 h.0 (over_none ms))

  items_back : (ds : Items) → FineItems ds → of_items (items_outline ds) ≡ Some ds
  items_back no_items h = refl
  items_back (item d ds) h = rw (json_back d h.0, items_back ds h.1) refl

  members_back : (done ms : Members) → FineMembers ms → Sorted ms → Over done ms → of_members (members_outline ms) done ≡ Some (joined done ms)
  members_back done no_members h sorted over = ap Some (sym (joined_none done))
  members_back done (member k d ms) h sorted over =
      ap (option_and_then (λ x. of_members (members_outline ms) (put k x done))) (json_back d h.0) ∙ ap (of_members (members_outline ms)) (put_end k d done over.0)
      ∙ members_back (joined done (member k d no_members)) ms h.1 sorted.1 (over_joined done k d ms over.1 sorted.0) ∙ ap Some (joined_one done k d ms)

mutual
  pub outline_depth : (d : Data) → tree.depth (outline d) ≡ depth d
  outline_depth null = refl
  outline_depth (boolean b) = refl
  outline_depth (number n) = refl
  outline_depth (string s) = refl
  outline_depth (array ds) = ap suc (items_outline_depth ds)
  outline_depth (object ms) = ap suc (members_outline_depth ms)

  items_outline_depth : (ds : Items) → tree.items_depth (items_outline ds) ≡ items_depth ds
  items_outline_depth no_items = refl
  items_outline_depth (item d ds) = ap₂ max (outline_depth d) (items_outline_depth ds)

  members_outline_depth : (ms : Members) → tree.members_depth (members_outline ms) ≡ members_depth ms
  members_outline_depth no_members = refl
  members_outline_depth (member k d ms) = ap₂ max (outline_depth d) (members_outline_depth ms)
