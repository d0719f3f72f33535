use Rattle.std.proofs.Common.{ap, arith, length}
use Rattle.type_lookup.specs.messages.Spelling.{payload_of}
use Rattle.type_lookup.proofs.OfMessages.Long.{gets_long, depends_long, types_long, dependencies_long}
use Rattle.type_lookup.proofs.messages.sizes.payload_size.Goals as goal

pub returns-in-GetTypes : goal.returns-in-GetTypes
returns-in-GetTypes c =
    let same = ap (λ m. length (payload_of m)) c.in-GetTypes.is in
    omega (arith, c.counted_size.ensures.exact, same, gets_long c.in-GetTypes.tag c.in-GetTypes.ids)

pub returns-in-GetTypeDependencies : goal.returns-in-GetTypeDependencies
returns-in-GetTypeDependencies c =
    let same = ap (λ m. length (payload_of m)) c.in-GetTypeDependencies.is in
    omega (arith, c.counted_size-in-GetTypeDependencies.ensures.exact, c.len.ensures, same, depends_long c.in-GetTypeDependencies.tag c.in-GetTypeDependencies.ids c.in-GetTypeDependencies.point)

pub returns-in-Types : goal.returns-in-Types
returns-in-Types c =
    let same = ap (λ m. length (payload_of m)) c.in-Types.is in
    omega (arith, c.counted_size-in-Types.ensures.exact, same, types_long c.in-Types.tag c.in-Types.objects)

pub returns-in-Dependencies : goal.returns-in-Dependencies
returns-in-Dependencies c =
    let same = ap (λ m. length (payload_of m)) c.in-Dependencies.is in
    omega (arith, c.counted_size-in-Dependencies.ensures.exact, c.len-in-Dependencies.ensures, same, dependencies_long c.in-Dependencies.tag c.in-Dependencies.needed c.in-Dependencies.point)
