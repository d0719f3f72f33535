use Rattle.std.proofs.Common.{arith, ◌≡◌, refl, ℕ, ◌+◌, ◌-◌, ◌<◌, ◌≤◌, List, length, take, true, false, nat_lt, Some, None, Ok}
use Rattle.std.proofs.lemmas.Bool.{le-ltb, lt-ltb}
use Rattle.std.proofs.lemmas.Result.{err_from_is_err_and}
use Rattle.xt_shapes.specs.declared.leaves.Ext.{Ext}
use Rattle.xt_shapes.specs.declared.leaves.Order.{Order}
use Rattle.xt_shapes.specs.declared.leaves.Rep.{Rep}
use Rattle.xcdr_model.specs.declared.malformed.Why.TheVariants as why
use Rattle.xcdr_model.specs.Reading.{Spot, Reading, fault_at, ◌>>=◌, octets_at}
use Rattle.xt_wire.specs.cursor.Standing.{Standing, Stands, room}
use Rattle.xt_wire.specs.cursor.Decoding.{Decodes}
use Rattle.xt_wire.proofs.OfCursor.Ahead.{Ahead, begins, goes_on, fails, ends, rephrased, malformed, room_is}
use Rattle.xcdr_samples.specs.frames.Heads.{Told, head_view, head_told, head_in, head_at}
use Rattle.xcdr_samples.proofs.frames.heads.read_head.Goals as goal

begun : (r : Rep) (e : Ext) (a : Standing) → Ahead (head_at r e) (head_at r e) a a
begun r e a = begins (head_at r e) (head_at r e) a (λ s. refl)

-- what four octets say, behind them
told : Rep → Ext → ℕ → List ℕ → Order → Spot → Reading Told
told r e at h o s = head_in at (head_told r e h) s

-- fewer than four octets are there
few : (r : Rep) (e : Ext) (a : Standing) → Stands a → room a < 4 → Ahead (head_at r e) (λ o s. fault_at s.at why.Encapsulation) a a
few r e a st lt = rephrased (head_at r e) (λ o s. fault_at s.at why.Encapsulation) (begun r e a) (λ xs is. let short : nat_lt (length (take (room a) xs)) 4 ≡ true = lt-ltb _ _ (omega (arith, room_is xs st is, lt)) in rw short refl)

-- four octets are there
four : (r : Rep) (e : Ext) (a : Standing) (n : ℕ) → Stands a → 4 ≤ room a → n ≡ 4 → Ahead (head_at r e) (λ o s. octets_at n s >>= λ h. told r e (a.place - a.origin) h.0 o h.1) a a
unfolding told
four r e a n st le is = rephrased (head_at r e) (λ o s. octets_at n s >>= λ h. told r e (a.place - a.origin) h.0 o h.1) (begun r e a) (λ xs e. let long : nat_lt (length (take (room a) xs)) 4 ≡ false = le-ltb _ _ (omega (arith, room_is xs st e, le)) in rw (long, is) refl)

-- they were read
read : (r : Rep) (e : Ext) (a b : Standing) (octets : List ℕ) → Stands a → 4 ≤ room a → length octets ≡ 4 → Decodes {T = Unit {0}} (λ u. octets) (λ o s. octets_at (length octets) s) a b (Ok tt) → Ahead (head_at r e) (told r e (a.place - a.origin) octets) a b
read r e a b octets st le is d = goes_on (λ u. octets) (λ o s. octets_at (length octets) s) (told r e (a.place - a.origin)) (four r e a (length octets) st le is) d

-- their identifier is another
refused : (r : Rep) (e : Ext) (a b : Standing) (octets : List ℕ) → None ≡ head_told r e octets → Ahead (head_at r e) (told r e (a.place - a.origin) octets) a b → Ahead (head_at r e) (λ o s. fault_at (a.place - a.origin) why.Encapsulation) a b
unfolding told
refused r e a b octets is u = rephrased (told r e (a.place - a.origin) octets) (λ o s. fault_at (a.place - a.origin) why.Encapsulation) u (λ xs e. rw (← is) refl)

-- they count more padding than there are octets
padded : (r : Rep) (e : Ext) (a b : Standing) (octets : List ℕ) (h : Told) → Stands b → Some h ≡ head_told r e octets → room b < h.1 → Ahead (head_at r e) (told r e (a.place - a.origin) octets) a b → Ahead (head_at r e) (λ o s. fault_at (a.place - a.origin + 2) why.Encapsulation) a b
unfolding told
padded r e a b octets h st is lt u = rephrased (told r e (a.place - a.origin) octets) (λ o s. fault_at (a.place - a.origin + 2) why.Encapsulation) u (λ xs e. let short : nat_lt (length (take (room b) xs)) h.1 ≡ true = lt-ltb _ _ (omega (arith, room_is xs st e, lt)) in rw (← is, short) refl)

fitting : (r : Rep) (e : Ext) (a b : Standing) (octets : List ℕ) (h : Told) → Stands b → Some h ≡ head_told r e octets → h.1 ≤ room b → Ahead (head_at r e) (told r e (a.place - a.origin) octets) a b → Ahead (head_at r e) (λ o s. Ok (h, s)) a b
unfolding told
fitting r e a b octets h st is le u = rephrased (told r e (a.place - a.origin) octets) (λ o s. Ok (h, s)) u (λ xs e. let long : nat_lt (length (take (room b) xs)) h.1 ≡ false = le-ltb _ _ (omega (arith, room_is xs st e, le)) in rw (← is, long) refl)

pub returns-then-region_end-at-lt4-clause-value : goal.returns-then-region_end-at-lt4-clause-value
returns-then-region_end-at-lt4-clause-value g c =
    let a = g.C.Cursor.state c.args.cursor.now in
    let st = g.met.C.Cursor.stands c.args.cursor.now in
    rw c.no_sample.ensures (malformed head_view (λ s. s.at) why.Encapsulation (few c.args.rep c.args.ext a st (omega (arith, c.if-region_end-at-lt4.true, c.region_end.ensures, c.place-at.ensures))) (λ xs. omega (arith, c.place-at.ensures, st.from_origin)))

pub returns-in_err-read_octets-clause-value : goal.returns-in_err-read_octets-clause-value
returns-in_err-read_octets-clause-value g c =
    let a = g.C.Cursor.state c.args.cursor.now in
    let st = g.met.C.Cursor.stands c.args.cursor.now in
    let into = c.read_octets.new.into in
    let p = err_from_is_err_and c.from_residual.result c.from_residual.ensures.1 in
    rw (p.1, p.2) (fails (λ u. into) head_view (λ o s. octets_at (length into) s) (told c.args.rep c.args.ext (a.place - a.origin)) (four c.args.rep c.args.ext a (length into) st (omega (arith, c.if-region_end-at-lt4.false, c.region_end.ensures, c.place-at.ensures)) c.read_octets.auto.into) c.in_err-read_octets.ensures)

pub returns-in_default-clause-value : goal.returns-in_default-clause-value
returns-in_default-clause-value g c =
    let a = g.C.Cursor.state c.args.cursor.now in
    let b = g.C.Cursor.state c.read_octets.new.cursor in
    let st = g.met.C.Cursor.stands c.args.cursor.now in
    let into = c.read_octets.new.into in
    let u = read c.args.rep c.args.ext a b into st (omega (arith, c.if-region_end-at-lt4.false, c.region_end.ensures, c.place-at.ensures)) c.read_octets.auto.into c.in_ok-read_octets.ensures in
    rw c.no_sample-in_default.ensures (malformed head_view (λ s. a.place - a.origin) why.Encapsulation (refused c.args.rep c.args.ext a b into c.in_default.ensures u) (λ xs. omega (arith, c.place-at.ensures, st.from_origin, c.in_ok-read_octets.ensures.within.origin)))

pub returns-then-region_end-place-clause-value : goal.returns-then-region_end-place-clause-value
returns-then-region_end-place-clause-value g c =
    let a = g.C.Cursor.state c.args.cursor.now in
    let b = g.C.Cursor.state c.read_octets.new.cursor in
    let st = g.met.C.Cursor.stands c.args.cursor.now in
    let stb = g.met.C.Cursor.stands c.read_octets.new.cursor in
    let into = c.read_octets.new.into in
    let u = read c.args.rep c.args.ext a b into st (omega (arith, c.if-region_end-at-lt4.false, c.region_end.ensures, c.place-at.ensures)) c.read_octets.auto.into c.in_ok-read_octets.ensures in
    rw c.no_sample-then-region_end-place.ensures (malformed head_view (λ s. a.place - a.origin + 2) why.Encapsulation (padded c.args.rep c.args.ext a b into (head_view c.in-Some.head) stb c.in-Some.ensures (omega (arith, c.if-region_end-place.true, c.from.ensures, c.place.ensures, c.region_end-2.ensures)) u) (λ xs. omega (arith, c.place-at.ensures, st.from_origin, c.in_ok-read_octets.ensures.within.origin)))

pub returns-clause-value : goal.returns-clause-value
returns-clause-value g c =
    let a = g.C.Cursor.state c.args.cursor.now in
    let b = g.C.Cursor.state c.read_octets.new.cursor in
    let st = g.met.C.Cursor.stands c.args.cursor.now in
    let stb = g.met.C.Cursor.stands c.read_octets.new.cursor in
    let into = c.read_octets.new.into in
    let u = read c.args.rep c.args.ext a b into st (omega (arith, c.if-region_end-at-lt4.false, c.region_end.ensures, c.place-at.ensures)) c.read_octets.auto.into c.in_ok-read_octets.ensures in
    ends head_view (λ o. head_view c.in-Some.head) (fitting c.args.rep c.args.ext a b into (head_view c.in-Some.head) stb c.in-Some.ensures (omega (arith, c.if-region_end-place.false, c.from.ensures, c.place.ensures, c.region_end-2.ensures)) u) refl
