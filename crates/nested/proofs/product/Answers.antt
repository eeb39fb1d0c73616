-- Where all fits, the product is made. Rests on Fits.
use Rattle.std.proofs.Common.{sym, ◌∙◌}
use Rattle.nested.proofs.Fits.{product_not, product_fit, fit_pre}
use Rattle.nested.proofs.product.Goals as goal

pub returns-then-not-product_fits : goal.returns-then-not-product_fits
returns-then-not-product_fits c = sym (product_not _ _ _ _ _ _ (sym c.product_fits.ensures ∙ c.if-not-product_fits.true))

pub times-requires : goal.times-requires
times-requires c = fit_pre _ _ _ _ _ (sym c.product_fits.ensures ∙ c.if-not-product_fits.false)

pub returns : goal.returns
returns c = c.times.ensures ∙ sym (product_fit c.args.p (fit_pre _ _ _ _ _ (sym c.product_fits.ensures ∙ c.if-not-product_fits.false)))
