-- What is shown of the sizes of blocks that are known when compiled: the number of words of an element of that rank. No clause cites it.
use Rattle.std.specs.Prelude.{◌≡◌, suc, refl}
use Rattle.lists.specs.Numbers.{factorial}

pub two : 6 ≡ factorial (suc 2)
unfolding factorial
two = refl

pub three : 24 ≡ factorial (suc 3)
unfolding factorial
three = refl

pub four : 120 ≡ factorial (suc 4)
unfolding factorial
four = refl

pub five : 720 ≡ factorial (suc 5)
unfolding factorial
five = refl
