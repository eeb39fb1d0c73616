mod FourProducts
