use Rattle.shares.proofs.Product as product
use Rattle.shares.proofs.product_joins.Goals as goal

pub returns : goal.returns
returns c = product.product_joins
