mod LeastOf
