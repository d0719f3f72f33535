use Rattle.std.proofs.Common.{◌≡◌, ◌∙◌, sym, ap, subst, Err, ℕ, List, Bool, IsTrue}
use Rattle.key_instances.specs.kept.Kept.{InstancesOf, is_full}
use Rattle.key_instances.specs.Caches.{CacheOf, entries_as}
use Rattle.key_instances.proofs.Mapped.{is_full_shown, put_shown}
use Rattle.tool_samples.specs.declared.instances.held.Held.{Held}
use Rattle.tool_samples.specs.instances.Holding.{shown_as}
use Rattle.tool_samples.specs.instances.Instancing.{most_keys}
use Rattle.tool_samples.proofs.OfInstances.Turned.{put_went, put_refused}
use Rattle.tool_samples.proofs.instances.putting.put_held.Goals as goal
use Rattle.xt_shapes.specs.Vals.{Val}

same_full : (f : Held → Val) (c : CacheOf Held) (key : List ℕ) → c.most ≡ 65536 → is_full most_keys (shown_as f c) key ≡ is_full c.most c.entries key
same_full f c key most = ap (λ (m : ℕ). is_full m (shown_as f c) key) (sym most) ∙ is_full_shown f c.most c.entries key

pub returns-in-Ok-clause-put : goal.returns-in-Ok-clause-put
returns-in-Ok-clause-put c f =
    let old = c.args.cache.now in
    let key = c.args.key in
    put_went old.depth (shown_as f old) (shown_as f c.put.new.self) key (f c.args.held) (λ full. c.in-Ok.ensures.room (subst (λ (b : Bool). IsTrue b) (same_full f old key c.requires.most) full))
    (ap (λ (es : InstancesOf Held). entries_as f es) c.in-Ok.ensures.put ∙ put_shown f old.depth old.entries key c.args.held)

pub returns-in-Err-Full-clause-put : goal.returns-in-Err-Full-clause-put
returns-in-Err-Full-clause-put c f =
    let old = c.args.cache.now in
    let key = c.args.key in
    put_refused old.depth (shown_as f old) (shown_as f c.put.new.self) key (f c.args.held) c.refuse_key.result (subst (λ (b : Bool). IsTrue b) (sym (same_full f old key c.requires.most)) (c.in-Err-Full.ensures.full (ap Err c.in-Err-Full.field-0-is))) c.refuse_key.ensures
