use Rattle.std.proofs.Common.{◌∙◌, rules}
use Rattle.std.specs.Prelude.{◌*ℤ◌, FitsSigned}
use Rattle.std.specs.Int.{w32}
use Rattle.jos_alu.specs.Products.{bits_of}
use Rattle.jos_alu.proofs.SignedProducts.{product_bits}
use Rattle.jos_alu.proofs.products.signed_product.Goals as goal

pub returns : goal.returns
returns c =
    let left : FitsSigned w32 c.signed_of.result = search rules in
    let right : FitsSigned w32 c.signed_of-2.result = search rules in
    product_bits _ _ _ _ _ left right c.from-left.ensures c.from-right.ensures c.cast_unsigned.ensures
    ∙ (λ i. bits_of (c.signed_of.ensures i *ℤ c.signed_of-2.ensures i))
